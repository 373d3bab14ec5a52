-- Which refusal is first of a text that was not read: 50 where it leaves the form, else 51, 52, 5, and 9 where none of the others is given.
use Prim.Native.Nat.{ℕ, ◌≤◌, ◌<◌}
use native.Mathlib.Decide.{dec_lt}
use native.Mathlib.Omega.{arith}
use mathlib.Core.Path.{◌≡◌}
use mathlib.Core.List.{List}
use lib.ListN.{drop}
use Rattle.l1.specs.Syntax.{Expr}
use Rattle.l1.specs.Measures.{size, places}
use Rattle.l1.specs.Text.{text}
use Rattle.stored.specs.Stages as S
use Rattle.stored.specs.Stages.{no_with, ◌when◌, given, given_at, First}
use Rattle.stored.proofs.Stages.{when_silent, at_silent, first_here, Past, past_none, past_more, first_now}
use Rattle.text_form.specs.Form.{OfForm, Leaves}
use Rattle.text_form.specs.Numbers.{LargeInteger, LargeLocation, Foremost}
use Rattle.text_form.specs.Reading.{of_text}
use Rattle.text_form.specs.Small.{Unreadable, NoLargeInteger}
use Rattle.text_form.proofs.OnePlace.{not_form}
use Rattle.text_form.proofs.SmallNumbers.{no_large_small}
use Rattle.std.specs.Prelude.{Some, None}
use Rattle.text_limits.specs.Limits.{Large, Finds, finds_first, finds_none}
use Rattle.text_limits.specs.declared.Numbers.{Numbers}
use Rattle.text_limits.specs.declared.Numbers.TheVariants.{Integers}

pub first_50 : {t : List ℕ} {i : ℕ} → Leaves t i → First (of_text t) (no_with 50 i)
first_50 h = first_here (given_at h)

-- what a pass has found of a text of the form
pub found : {t : List ℕ} {l : Numbers} {i : ℕ} → Finds t l (Some i) → (e : Expr) → t ≡ text e → Foremost (Large l e) i
found (finds_first h) = h

pub none_found : {t : List ℕ} {l : Numbers} → Finds t l None → (e : Expr) → t ≡ text e → (i : ℕ) → ¬ Large l e i
none_found (finds_none h) = h

pub no_large : {t : List ℕ} → Finds t Integers None → NoLargeInteger t
no_large h = record { none_large = none_found h }

module _ {t : List ℕ} (f : OfForm t) where
  past_50 : Past (of_text t) (drop 1 (of_text t))
  past_50 = past_more past_none (at_silent (λ i h. not_form h f))

  pub first_51 : {i : ℕ} → Foremost (LargeInteger f.expr) i → First (of_text t) (no_with 51 i)
  first_51 h = first_now past_50 (given_at (f.expr, f.shown, h))

  module _ (none_51 : NoLargeInteger t) where
    past_51 : Past (of_text t) (drop 2 (of_text t))
    past_51 = past_more past_50 (at_silent (λ i (e, q, h). none_51.none_large e q i h.is))

    pub first_52 : {i : ℕ} → Foremost (LargeLocation f.expr) i → First (of_text t) (no_with 52 i)
    first_52 h = first_now past_51 (given_at (f.expr, f.shown, h))

    module _ (none-52 : (e : Expr) → t ≡ text e → (i : ℕ) → ¬ LargeLocation e i) where
      past_52 : Past (of_text t) (drop 3 (of_text t))
      past_52 = past_more past_51 (at_silent (λ i (e, q, h). none-52 e q i h.is))

      pub first_5 : 4096 < size f.expr → First (of_text t) (S.no 5)
      first_5 l = first_now past_52 (given (f.expr, f.shown, l))

      -- what no other refusal is given to and yet no routine can hold has too many places
      many : Unreadable t → size f.expr ≤ 4096 → 256 < places f.expr
      many u few =
          elim (dec_lt 256 (places f.expr)) [
            | yes l ↦ l
            | no l ↦
                absurd
                (u.none_fits f.expr f.shown
                (no_large_small f.expr (none_51.none_large f.expr f.shown) (none-52 f.expr f.shown))
                few (omega arith))
          ]

      pub first_9 : Unreadable t → ((e : Expr) → t ≡ text e → size e ≤ 4096) → First (of_text t) (S.no 9)
      first_9 u few =
          first_now (past_more past_52 (when_silent (λ (e, q, l). omega (arith, few e q))))
          (given (f.expr, f.shown, many u (few f.expr f.shown)))
