-- v and the digits that are left have the word's value.
use Rattle.std.proofs.Common.{drop, ◌≤◌, ◌≡◌}
use Rattle.text_form.specs.Digits.{value_from}
use Rattle.arguments.proofs.value_of.Given as goal

abbrev pub invariant-loop-c : goal.invariant-loop-c
invariant-loop-c l = (l.v ≤ l.top) × (value_from l.v (drop l.c-index l.s) ≡ value_from 0 l.s)
