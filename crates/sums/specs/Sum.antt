-- What the sum of two integers is: the number where it is in range, and otherwise none.
use Rattle.std.specs.Prelude.{cond, Option, Some, None, ℤ, ◌+ℤ◌}
use Rattle.l1.specs.Next.{in_range}

abbrev pub sum_of : ℤ → ℤ → Option ℤ
sum_of a b = cond (in_range (a +ℤ b)) (Some (a +ℤ b)) None
