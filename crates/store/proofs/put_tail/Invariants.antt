-- As many values as a row can have stand behind the fuel.
use Rattle.std.proofs.Common.{◌≡◌, ◌+◌, ◌*◌, ◌≤◌, length}
use Rattle.store.proofs.put_tail.Given as goal

abbrev pub invariant-loop-i : goal.invariant-loop-i
invariant-loop-i g l = (length l.tail.room.now ≡ 1024) × (l.tail.at ≤ 1024) × (l.i ≤ 255 → l.tail.at ≡ 4 + 4 * l.i)
