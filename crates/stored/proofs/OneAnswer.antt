-- One answer: any two refusals, and any two answers of opening, the check, the run or the text, that the definitions allow are the same.
use Prim.Native.Nat.{ℕ}
use mathlib.Core.Path.{◌≡◌, refl, ap}
use mathlib.Core.List.{List, [], ◌++◌}
use lib.ListN.{length, drop}
use Rattle.l1.specs.Syntax.{Expr}
use Rattle.l1.specs.Store.{Store}
use Rattle.l1.specs.Run.{Answer, answer, Yields}
use Rattle.l1.specs.Text.{text}
use Rattle.l1.proofs.Outcomes.{one_answer}
use Rattle.l1.proofs.TypeUnique.{type_unique}
use Rattle.stored.specs.Refusals.{Holds, TextLength, opening, checking, running, texting, lent_store, lent_room}
use Rattle.stored.specs.Answers.{Opened, Opening, open_refuses, open_opens}
use Rattle.stored.specs.Answers.{Checked, Checks, check_refuses, check_tells}
use Rattle.stored.specs.Answers.{Ran, ran, Runs, run_refuses, run_yields, Wrote, wrote, Writes, text_refuses, text_wrote}
use Rattle.stored.proofs.Reader.{holds_unique}
use Rattle.stored.proofs.Stages.{when_single, at_single, AllSingle, first_unique, passes_none}
use Rattle.stored.proofs.Admission.{opening_single, admission_single}

-- what the run and the text tell of an answer
abbrev ran_and_store : Answer → Ran × Store
ran_and_store (answer o T K e s) = (ran o T K, s)

abbrev text_of : Answer → List ℕ
text_of (answer o T K e s) = text e

abbrev steps_of : Answer → ℕ
steps_of (answer o T K e s) = T

module _ (b : List ℕ) where
  pub opening_unique : {a a' : Opened} → Opening b a → Opening b a' → a ≡ a'
  opening_unique (open_refuses f) (open_refuses f') = ap Opened.refuses (first_unique (opening b) (opening_single b) f f')
  opening_unique (open_refuses f) (open_opens ok h) = absurd (passes_none ok.passes f)
  opening_unique (open_opens ok h) (open_refuses f) = absurd (passes_none ok.passes f)
  opening_unique (open_opens ok h) (open_opens ok' h') = refl

  pub checks_unique : {a a' : Checked} → Checks b a → Checks b a' → a ≡ a'
  checks_unique (check_refuses f) (check_refuses f') = ap Checked.refuses (first_unique (checking b) (admission_single b [] tt) f f')
  checks_unique (check_refuses f) (check_tells p h t) = absurd (passes_none p f)
  checks_unique (check_tells p h t) (check_refuses f) = absurd (passes_none p f)
  checks_unique (check_tells p h t) (check_tells p' h' t') =
      let q = holds_unique b h h' in rw (q, type_unique (rw q at t) t')

  -- the run of the tree that the bytes hold has one answer
  pub held_answer : {f : ℕ} {e e' : Expr} {s : Store} {a a' : Answer} → Holds b e → Holds b e' → Yields f e s a → Yields f e' s a' → a ≡ a'
  held_answer h h' y y' = one_answer (rw (holds_unique b h h') at y) y'

  module _ {s : Store} where
    pub runs_unique : {s₁ s₂ : Store} {f : ℕ} {a a' : Ran} → Runs b s f a s₁ → Runs b s f a' s₂ → (a ≡ a') × (s₁ ≡ s₂)
    runs_unique (run_refuses f) (run_refuses f') =
        (ap Ran.refuses (first_unique (running b s) (admission_single b (lent_store b (length s)) (when_single, tt)) f f'), refl)
    runs_unique (run_refuses f) (run_yields p h y) = absurd (passes_none p f)
    runs_unique (run_yields p h y) (run_refuses f) = absurd (passes_none p f)
    runs_unique (run_yields p h y) (run_yields p' h' y') =
        let q = held_answer h h' y y' in (ap (λ a. (ran_and_store a).0) q, ap (λ a. (ran_and_store a).1) q)

    pub one_length : {k m n : ℕ} → TextLength b s k m → TextLength b s k n → m ≡ n
    one_length (e, e₁, s₁, o, T, K, h, y, p) (e', e₂, s₂, o', T', K', h', y', q) =
        rw (p, q) (ap (λ a. length (text_of a)) (held_answer h h' y y'))

    texting_single : (k room : ℕ) → AllSingle (texting b s k room)
    texting_single k room =
        admission_single b (lent_store b (length s) ++ lent_room b s k room)
        (when_single, (at_single (λ m n x y. one_length x.0 y.0), tt))

    pub writes_unique : {k : ℕ} {buffer buffer₁ buffer₂ : List ℕ} {a a' : Wrote}
        → Writes b s k buffer a buffer₁ → Writes b s k buffer a' buffer₂ → (a ≡ a') × (buffer₁ ≡ buffer₂)
    writes_unique {k} {buffer} (text_refuses f) (text_refuses f') =
        (ap Wrote.refuses (first_unique (texting b s k (length buffer)) (texting_single k (length buffer)) f f'), refl)
    writes_unique (text_refuses f) (text_wrote p h y) = absurd (passes_none p f)
    writes_unique (text_wrote p h y) (text_refuses f) = absurd (passes_none p f)
    writes_unique {buffer = buffer} (text_wrote p h y) (text_wrote p' h' y') =
        let q = held_answer h h' y y' in (
          ap (λ a. wrote (length (text_of a)) (steps_of a)) q,
          ap (λ a. text_of a ++ drop (length (text_of a)) buffer) q,
        )
