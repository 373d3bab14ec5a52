-- The value of the digits so far and the digits to come note the whole number.
use Rattle.std.proofs.Common.{◌≡◌, ◌≤◌, drop}
use Rattle.text_form.specs.Digits.{digits_of, value_from}
use Rattle.text_limits.specs.Marks.{value}
use Rattle.text_limits.proofs.over.Given as goal

abbrev pub invariant-loop-b : goal.invariant-loop-b
invariant-loop-b l = (l.v ≤ l.bound) × (value l.t ≡ value_from l.v (digits_of (drop l.b-index l.t)))
