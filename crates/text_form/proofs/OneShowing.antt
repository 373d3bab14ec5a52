-- Writing has one answer: any two answers and buffers that the definition allows for the same bytes and buffer are the same.
use Prim.Native.Nat.{ℕ}
use mathlib.Core.Path.{◌≡◌, refl, ap}
use mathlib.Core.List.{List, [], ◌∷◌, ◌++◌}
use lib.ListN.{length, drop}
use Rattle.l1.specs.Syntax.{Expr}
use Rattle.l1.specs.Text.{text}
use Rattle.stored.specs.Stages.{Stage}
use Rattle.stored.specs.Refusals.{RootHas, opening}
use Rattle.stored.proofs.Reader.{holds_unique}
use Rattle.stored.proofs.Stages.{AllSingle, at_single, first_unique, passes_none}
use Rattle.stored.proofs.Admission.{opening_single}
use Rattle.text_form.proofs.AnyShown.{room}
use Rattle.text_form.specs.Showing.{showing, Shown, refuses, shown, Shows, show_refuses, show_writes}

both_single : (former latter : List Stage) → AllSingle former → AllSingle latter → AllSingle (former ++ latter)
both_single [] latter p q = q
both_single (A ∷ former) latter (one, p) q = (one, both_single former latter p q)

module _ (b : List ℕ) where
  -- the routine has one text
  one_length : (m n : ℕ) → RootHas b (λ e. m ≡ length (text e)) → RootHas b (λ e. n ≡ length (text e)) → m ≡ n
  one_length m n (e, h, p) (e', h', q) = rw (p, q) (ap (λ (e : Expr). length (text e)) (holds_unique b h h'))

  showing_single : (n : ℕ) → AllSingle (showing b n)
  showing_single n = both_single (opening b) (room b n) (opening_single b) (at_single (λ m n x y. one_length m n x.0 y.0), tt)

  pub shows_unique : {buffer buffer₁ buffer₂ : List ℕ} {a a' : Shown} → Shows b buffer a buffer₁ → Shows b buffer a' buffer₂
      → (a ≡ a') × (buffer₁ ≡ buffer₂)
  shows_unique {buffer} (show_refuses f) (show_refuses f') =
      (ap refuses (first_unique (showing b (length buffer)) (showing_single (length buffer)) f f'), refl)
  shows_unique (show_refuses f) (show_writes p h) = absurd (passes_none p f)
  shows_unique (show_writes p h) (show_refuses f) = absurd (passes_none p f)
  shows_unique {buffer} (show_writes p h) (show_writes p' h') =
      let q = holds_unique b h h' in (
        ap (λ (e : Expr). shown (length (text e))) q,
        ap (λ (e : Expr). text e ++ drop (length (text e)) buffer) q,
      )
