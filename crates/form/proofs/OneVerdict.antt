-- Any two verdicts that the contract of `form` allows are equal.
use Prim.Native.Nat.{ℕ}
use mathlib.Core.Path.{◌≡◌, refl, ap}
use mathlib.Core.List.{List}
use Rattle.std.specs.Prelude.{Result, Ok, Err}
use Rattle.text_form.proofs.OnePlace.{one_place, not_form}
use Rattle.form.specs.Verdicts.{Says}

pub one_verdict : (t : List ℕ) (v w : Result (Unit {0}) ℕ) → Says t v → Says t w → v ≡ w
one_verdict t (Ok u) (Ok v) p q = refl
one_verdict t (Ok _) (Err j) p q = absurd (not_form q p)
one_verdict t (Err i) (Ok _) p q = absurd (not_form p q)
one_verdict t (Err i) (Err j) p q = ap Err (one_place p q)
