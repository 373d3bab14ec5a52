-- One digit more, and the end.
use Rattle.std.proofs.Common.{arith, ℕ, List, ◌≡◌, ◌+◌, ◌*◌, ◌-◌, ◌<◌, add-one, length, drop, get_or, drop-cons}
use lib.ListN.{drop_of_length-le}
use Rattle.text_form.specs.Digits.{value_from}
use Rattle.arguments.proofs.Words.{value_least}
use Rattle.arguments.proofs.value_of.Goals as goal

-- one digit more
turn : (s : List ℕ) (v i d : ℕ) → i < length s → d ≡ get_or s i 0 - 48 → value_from v (drop i s) ≡ value_from 0 s
    → value_from (10 * v + d) (drop (i + 1) s) ≡ value_from 0 s
unfolding value_from
turn s v i d l q e = rw (q, add-one i) (rw (drop-cons s i 0 l) at e)

pub returns-then-from-v : goal.returns-then-from-v
returns-then-from-v c =
    let s = c.args.s.now in let l = c.loop-c in
    omega (
      arith,
      value_least (10 * l.v + c.from.result) (drop (l.c-index + 1) s),
      turn s l.v l.c-index c.from.result c.loop-c-test.true (omega arith) l.invariant.1,
    )

pub loop-c-preserved : goal.loop-c-preserved
loop-c-preserved c =
    let l = c.loop-c in
    (omega arith, turn c.args.s.now l.v l.c-index c.from.result c.loop-c-test.true (omega arith) l.invariant.1)

pub returns : goal.returns
unfolding value_from
returns c =
    let l = c.loop-c in
    (rw (drop_of_length-le c.args.s.now {i = l.c-index} c.loop-c-test.false) at l.invariant.1, l.invariant.0)
