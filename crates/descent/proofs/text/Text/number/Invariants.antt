-- The invariant says what is read; the measure counts the bytes that are left.
use Rattle.std.proofs.Common.{◌≡◌, ◌-◌, length}
use Rattle.descent.proofs.Numerals.{Digits}
use Rattle.descent.proofs.text.Text.number.Given as goal

abbrev pub invariant-loop-c : goal.invariant-loop-c
invariant-loop-c l = (l.self.bytes.now ≡ l.fn.self.bytes.now) × Digits l.fn.self.bytes.now l.start l.bound l.self.at l.value

abbrev pub decreases-loop-c : goal.decreases-loop-c
decreases-loop-c l = length l.self.bytes.now - l.self.at
