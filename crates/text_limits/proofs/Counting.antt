-- The bytes ( + > ; h n of a text, less its w, are as many as it has nodes but one.
use Prim.Native.Nat.{ℕ, suc, ◌+◌, ◌-◌, ◌<◌}
use native.Mathlib.Omega.{arith}
use mathlib.Core.Path.{◌≡◌, refl, ap}
use mathlib.Core.Bool.{Bool, true, false}
use mathlib.Core.List.{List}
use borrow.Author.Tests.{ne_eqb}
use lib.Dec.{eqb}
use lib.IntN.{pos, negsuc}
use Rattle.std.specs.List.{count_by}
use Rattle.std.proofs.lemmas.List.Sums.{sum_by-append}
use Rattle.l1.specs.Syntax.{plus, geq, Expr, int, bool, ◌‹◌#◌›◌, if◌then'◌else◌, ◌:=◌, !◌, skip, ◌⨾◌, while◌do'◌done}
use Rattle.l1.specs.Measures.{size}
use Rattle.l1.specs.Text.{decimal, text}
use Rattle.text_form.proofs.Notation.{Digits, none, ◌then◌, digit_is, digits_decimal}
use Rattle.text_limits.specs.Limits.{Counts}
use Rattle.text_limits.specs.Marks.{counted}

abbrev pub taken : ℕ → Bool
taken b = eqb b 119

module _ (q : ℕ → Bool) (none_of : (b : ℕ) → (47 < b) × (b < 58) → q b ≡ false) where
  count_digits : {ds : List ℕ} → Digits ds → count_by q ds ≡ 0
  count_digits none = refl
  count_digits (◌then◌ {d} h hs) = rw (none_of d (digit_is d h)) (omega (arith, count_digits hs))

counted_none : (b : ℕ) → (47 < b) × (b < 58) → counted b ≡ false
counted_none b h =
    rw (ne_eqb b 40 (λ e. omega arith), ne_eqb b 43 (λ e. omega arith), ne_eqb b 62 (λ e. omega arith))
    (rw (ne_eqb b 59 (λ e. omega arith), ne_eqb b 104 (λ e. omega arith), ne_eqb b 110 (λ e. omega arith)))

-- the digits of n count nothing
abbrev no_add : (n : ℕ) → count_by counted (decimal n) ≡ 0
no_add n = count_digits counted counted_none (digits_decimal n)

abbrev no_take : (n : ℕ) → count_by taken (decimal n) ≡ 0
no_take n = count_digits taken (λ b h. ne_eqb b 119 (λ e. omega arith)) (digits_decimal n)

nodes : (e : Expr) → size e + count_by taken (text e) ≡ 1 + count_by counted (text e)
unfolding text
nodes (int (pos n)) = omega (arith, no_add n, no_take n)
nodes (int (negsuc n)) = omega (arith, no_add (suc n), no_take (suc n))
nodes (bool true) = refl
nodes (bool false) = refl
nodes (e₁ ‹ plus # i › e₂) = simp sum_by-append (omega (arith, nodes e₁, nodes e₂))
nodes (e₁ ‹ geq # i › e₂) = simp sum_by-append (omega (arith, nodes e₁, nodes e₂))
nodes (if e₁ then' e₂ else e₃) = simp sum_by-append (omega (arith, nodes e₁, nodes e₂, nodes e₃))
nodes (l := e) = simp sum_by-append (omega (arith, nodes e, no_add l, no_take l))
nodes (! l) = omega (arith, no_add l, no_take l)
nodes skip = refl
nodes (e₁ ⨾ e₂) = simp sum_by-append (omega (arith, nodes e₁, nodes e₂))
nodes (while e₁ do' e₂ done) = simp sum_by-append (omega (arith, nodes e₁, nodes e₂))

pub counts : (t : List ℕ) {n w r : ℕ} → n ≡ count_by counted t → w ≡ count_by taken t → r ≡ 1 + n - w → Counts t r
counts t a b q = record { nodes = λ e p. omega (arith, nodes e, ap (count_by taken) p, ap (count_by counted) p) }
