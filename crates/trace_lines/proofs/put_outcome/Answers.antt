-- In each arm, the text of its outcome.
use Rattle.std.proofs.Common.{arith, length, ◌≡◌, ◌+◌, ◌≤◌}
use mir.Syntax.{w32}
use mir.ValLaws.{to_z-of_z}
use borrow.Author.Rules.{rules}
use Rattle.l1.specs.Text.{text}
use Rattle.machine.specs.State.{outcome_of}
use Rattle.machine.specs.declared.state.Ending.{Ending}
use Rattle.machine.specs.declared.state.Ending.TheVariants as e
use Rattle.node_text.specs.Pages.{Puts}
use Rattle.node_text.specs.declared.Page.{Page}
use Rattle.node_text.proofs.PutLaws.{puts_more}
use Rattle.node_text.proofs.NumberLengths.{few_digits, few_bytes}
use Rattle.node_text.proofs.TextLengths.{truth_length}
use Rattle.trace_lines.specs.Lines.{outcome_text}
use Rattle.trace_lines.proofs.put_outcome.Goals as goal

-- what is written in the arm of ending a
in_arm : (a ending : Ending) {p q : Page} → ending ≡ a → length (outcome_text (outcome_of a)) ≤ 40
    → Puts p (outcome_text (outcome_of a)) q → Puts p (outcome_text (outcome_of ending)) q × (q.at ≤ p.at + 40)
in_arm a ending e few w = (rw e w, omega (arith, w.put.next))

pub number-requires : goal.number-requires
number-requires c = rw (to_z-of_z w32 c.in-Int.n (search rules)) (omega (arith, few_bytes c.in-Int.n (search rules)))

pub returns-in-Int : goal.returns-in-Int
unfolding text
returns-in-Int c =
    in_arm (e.Int c.in-Int.n) _ c.in-Int.is (omega (arith, few_bytes c.in-Int.n (search rules)))
    (puts_more c.text.ensures (rw (to_z-of_z w32 c.in-Int.n (search rules)) at c.number.ensures))

pub returns-in-Bool : goal.returns-in-Bool
unfolding text
returns-in-Bool c =
    in_arm (e.Bool c.in-Bool.t) _ c.in-Bool.is (omega (arith, truth_length c.in-Bool.t)) (puts_more c.text-in-Bool.ensures c.truth.ensures)

pub returns-in-Skip : goal.returns-in-Skip
unfolding text
returns-in-Skip c = in_arm e.Skip _ c.in-Skip.is (omega arith) c.text-in-Skip.ensures

pub returns-in-Overflow : goal.returns-in-Overflow
returns-in-Overflow c =
    in_arm (e.Overflow c.in-Overflow.i) _ c.in-Overflow.is (omega (arith, few_digits c.in-Overflow.i (search rules)))
    (puts_more c.text-in-Overflow.ensures (rw c.from.ensures at c.decimal.ensures))
