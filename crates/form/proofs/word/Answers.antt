-- The text's end, the first other byte, or the whole word.
use Rattle.std.proofs.Common.{ℕ, List, length, get_or, Err, arith, ◌+◌, ◌<◌, ◌≡◌, ◌∙◌}
use Rattle.form.specs.Places.{Spelled, broken, Fits}
use Rattle.form.proofs.Numbers.{exit, ends, whole}
use Rattle.form.proofs.word.Goals as goal

pub returns-in_err-byte : goal.returns-in_err-byte
returns-in_err-byte c = exit (Spelled _ _ _) _ c.from_residual.ensures.1 (ends c.loop-j.invariant c.loop-j-test.true (omega (arith, c.type_inv.w c.loop-j.j)) c.in_err-byte.ensures.0 c.in_err-byte.ensures.1)

-- the first other byte, at k
broken_at : {t : List ℕ} {i : ℕ} {w : List ℕ} {r k : ℕ} → k ≡ i + r → Fits t i w r → r < length w → (get_or t (i + r) 256 ≡ get_or w r 0 → ⊥) → Spelled t i w (Err k)
broken_at e f l n = rw e (broken f l n)

pub returns-then-branch-b : goal.returns-then-branch-b
returns-then-branch-b c =
    let e = c.in_ok-byte.ensures in
    broken_at (omega arith) c.loop-j.invariant c.loop-j-test.true (λ z. c.if-branch-b.true (e.0 ∙ z))

pub returns : goal.returns
returns c = whole c.loop-j.invariant c.loop-j-test.false
