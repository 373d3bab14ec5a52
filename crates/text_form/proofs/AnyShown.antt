-- What opens is shown, well typed or not: its text where that has room, else 32; and what opening refuses is refused.
use Prim.Native.Nat.{ℕ, ◌≤◌, ◌<◌}
use native.Mathlib.Omega.{arith}
use mathlib.Core.Path.{◌≡◌, refl, ap}
use mathlib.Core.List.{List, [], ◌∷◌, ◌++◌}
use lib.ListN.{length, length-append, drop}
use Rattle.l1.specs.Syntax.{Expr}
use Rattle.l1.specs.Text.{text}
use Rattle.stored.specs.Stages.{Refusal, Stage, no_with, ◌at◌, given_at}
use Rattle.stored.specs.Refusals.{Holds, RootHas, opening}
use Rattle.stored.specs.Answers.{Opened, Opens, Opening, open_refuses}
use Rattle.stored.proofs.Reader.{holds_unique}
use Rattle.stored.proofs.Stages.{at_silent, passes_nothing, passes_more, first_here, both_pass, first_former, first_latter}
use Rattle.text_form.specs.Showing.{refuses, shown, Shows, show_refuses, show_writes}

abbrev pub room : List ℕ → ℕ → List Stage
room b n = (32 at (λ k. RootHas b (λ e. k ≡ length (text e)) × (n < k))) ∷ []

pub opening_refused : {b buffer : List ℕ} {r : Refusal} → Opening b (Opened.refuses r) → Shows b buffer (refuses r) buffer
opening_refused {b} {buffer} (open_refuses f) = show_refuses (first_former (opening b) (room b (length buffer)) f)

module _ {b : List ℕ} (ok : Opens b) {e : Expr} (h : Holds b e) (buffer : List ℕ) where
  pub long_refused : length buffer < length (text e) → Shows b buffer (refuses (no_with 32 (length (text e)))) buffer
  long_refused l =
      show_refuses (first_latter (opening b) (room b (length buffer)) ok.passes (first_here (given_at ((e, h, refl), l))))

  module _ (l : length (text e) ≤ length buffer) where
    -- no other text of the routine is longer: there is one
    silent : (k : ℕ) → ¬ (RootHas b (λ e. k ≡ length (text e)) × (length buffer < k))
    silent k ((e', h', q), m) = omega (arith, ap (λ (e : Expr). length (text e)) (holds_unique b h' h))

    pub fits_shown : Shows b buffer (shown (length (text e))) (text e ++ drop (length (text e)) buffer)
    fits_shown =
        show_writes (both_pass (opening b) (room b (length buffer)) ok.passes (passes_more (at_silent silent) passes_nothing)) h

-- the text that is shown stands in the buffer
pub shown_fits : {b buffer buffer' : List ℕ} {n : ℕ} → Shows b buffer (shown n) buffer' → n ≤ length buffer'
shown_fits (show_writes {e} p h) = simp length-append (omega arith)
