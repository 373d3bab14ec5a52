-- What `trace` prints is one list of lines: any two that the definition allows for an input are the same.
use Prim.Native.Nat.{ℕ, suc}
use native.Mathlib.Omega.{arith}
use mathlib.Core.Path.{◌≡◌, refl, ap, ap₂}
use mathlib.Core.List.{List, [], ◌∷◌, ◌++◌}
use lib.ListN.{length}
use Rattle.l1.specs.Syntax.{Expr}
use Rattle.l1.specs.Store.{Store}
use Rattle.l1.specs.Run.{Run, stay, more, Answer, answer}
use Rattle.l1.specs.Text.{bytes}
use Rattle.l1.proofs.Determinism.{determinism}
use Rattle.stored.specs.Stages.{Refusal, First}
use Rattle.stored.specs.Refusals.{routine, after_routine, lent_input, tracing}
use Rattle.stored.specs.Trace.{store_in, moment_line, moment_lines, last_line, refused_line, Prints, prints_refusal, prints_run}
use Rattle.stored.proofs.Reader.{holds_unique}
use Rattle.stored.proofs.Stages.{when_single, first_unique, passes_none}
use Rattle.stored.proofs.Admission.{admission_single}
use Rattle.stored.proofs.OneAnswer.{held_answer}

-- the lines of a run's steps are told by where it starts and how many they are
same_moments : {T T' K K' : ℕ} {e e' a a' : Expr} {s s' z z' : Store} (k : ℕ)
    → T ≡ T' → e ≡ e' → s ≡ s' → (ds : Run T K e s a z) (ds' : Run T' K' e' s' a' z') → moment_lines k ds ≡ moment_lines k ds'
same_moments k t q p stay stay = refl
same_moments k t q p stay (more d ds) = absurd (omega arith)
same_moments k t q p (more d ds) stay = absurd (omega arith)
same_moments k t q p (more d ds) (more d' ds') =
    let (rule, to, left) = determinism (rw (q, p) at d) d' in
    ap₂ ◌∷◌ (rw (rule, to, left) refl) (same_moments (suc k) (omega arith) to left ds ds')

pub trace_refusal_unique : (input : List ℕ) {r r' : Refusal} → First (tracing input) r → First (tracing input) r' → r ≡ r'
trace_refusal_unique input =
    first_unique (tracing input) (admission_single (routine input) (lent_input (routine input) (length (after_routine input))) (when_single, tt))

abbrev steps_of : Answer → ℕ
steps_of (answer o T K e s) = T

abbrev last_of : Answer → List ℕ
last_of (answer o T K e s) = last_line o T K

pub prints_unique : {input : List ℕ} {ls ls' : List (List ℕ)} → Prints input ls → Prints input ls' → ls ≡ ls'
prints_unique {input} (prints_refusal f) (prints_refusal f') = ap (λ r. refused_line r ∷ []) (trace_refusal_unique input f f')
prints_unique (prints_refusal f) (prints_run none h y ds) = absurd (passes_none none f)
prints_unique (prints_run none h y ds) (prints_refusal f) = absurd (passes_none none f)
prints_unique {input} (prints_run none h y ds) (prints_run none' h' y' ds') =
    let q = holds_unique (routine input) h h' in
    let a = held_answer (routine input) h h' y y' in
    ap₂ ◌∷◌ (ap (λ e. moment_line 0 (bytes "start") e (store_in input)) q)
    (ap₂ (λ ms l. ms ++ l ∷ []) (same_moments 0 (ap steps_of a) q refl ds ds') (ap last_of a))
