-- The pieces of the line, in order: a number takes 20 bytes at most.
use Rattle.std.proofs.Common.{arith, refl, rules, ℕ, ◌++◌, ◌≡◌, Some, None}
use Rattle.l1.specs.Text.{bytes, decimal}
use Rattle.stored.specs.Stages.{Refusal, no, no_with, number}
use Rattle.stored.specs.Trace.{newline, refused_line}
use Rattle.routine.specs.Says.{also_of}
use Rattle.node_text.specs.Pages.{Puts}
use Rattle.node_text.specs.declared.Page.{Page}
use Rattle.node_text.proofs.NumberLengths.{few_digits}
use Rattle.node_text.proofs.PutLaws.{puts_more}
use Rattle.refused_line.proofs.put_refusal.Goals.{in-Some, in_default}
use Rattle.refused_line.proofs.put_refusal.Goals as goal

line_with : (r : Refusal) {i : ℕ} → also_of r ≡ Some i → refused_line r ≡ bytes "refused " ++ decimal (number r) ++ bytes " at " ++ decimal i ++ newline
line_with (no c) e = cc
line_with (no_with c i) e = cc

line_alone : (r : Refusal) → also_of r ≡ None → refused_line r ≡ bytes "refused " ++ decimal (number r) ++ newline
line_alone (no c) e = refl
line_alone (no_with c i) e = cc

told_with : {p q s t u v : Page} {n i : ℕ} (r : Refusal) → Puts p (bytes "refused ") q → Puts q (decimal n) s → Puts s (bytes " at ") t → Puts t (decimal i) u → Puts u newline v → n ≡ number r → also_of r ≡ Some i → Puts p (refused_line r) v
told_with r a b c d k e f = rw (line_with r f, ← e) (puts_more (puts_more (puts_more (puts_more a b) c) d) k)

told_alone : {p q s t : Page} {n : ℕ} (r : Refusal) → Puts p (bytes "refused ") q → Puts q (decimal n) s → Puts s newline t → n ≡ number r → also_of r ≡ None → Puts p (refused_line r) t
told_alone r a b c e f = rw (line_alone r f, ← e) (puts_more (puts_more a b) c)

pub returns : goal.returns
returns g c =
    let r = g.R.Refuses.refusal c.args.r in
    let few = few_digits c.number.result c.number.type_inv in
    elim c.match-also.branch [
      | in-Some w ↦
          let last = rw w.page-is at c.byte.ensures in (
            told_with r c.text.ensures c.decimal.ensures w.text-in-Some.ensures w.decimal-in-Some.ensures last c.number.ensures (grind arith),
            omega (arith, few, few_digits w.in-Some.i (search rules), last.put.next),
          )
      | in_default w ↦
          let last = rw w.page-is at c.byte.ensures in (
            told_alone r c.text.ensures c.decimal.ensures last c.number.ensures (grind arith),
            omega (arith, few, last.put.next),
          )
    ]
