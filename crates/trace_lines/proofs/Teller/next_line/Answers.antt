-- The machine makes one step more and its line is written, or it makes none and the last line is.
use Rattle.std.proofs.Common.{ℕ, arith, suc, ◌+◌, ◌≤◌, ◌<◌, ◌≡◌, refl, sym, [], ◌∷◌, ◌⊎◌, inl, inr}
use native.Mathlib.Decide.{dec_lt}
use Rattle.stored.specs.Trace.{last_line}
use Rattle.machine.specs.State.{outcome_of}
use Rattle.trace_lines.specs.Says.{tells_on, tells_all}
use Rattle.trace_lines.proofs.NextLine.{goes_no_back, one_more_line, last_line_lem}
use Rattle.trace_lines.proofs.Telling.{put_one}
use Rattle.trace_lines.proofs.Teller.next_line.Goals as goal

-- the limit is the fuel, or leaves a step to make
limit_or_fuel : {steps fuel limit : ℕ} → (limit ≤ fuel) × (steps ≤ limit) × (limit ≤ steps + 1) × (steps < fuel → steps < limit)
    → (limit ≡ fuel) ⊎ ((steps < limit) × (limit ≤ fuel))
limit_or_fuel {steps} {fuel} (l, low, high, more) =
    elim (dec_lt steps fuel) [
      | yes h ↦ inr (more h, l)
      | no h ↦ inl (omega arith)
    ]

pub returns-then-m-steps : goal.returns-then-m-steps
returns-then-m-steps c =
    let m = c.go_on-stand.result.machine in
    let limits = rw c.from-fuel.ensures at c.next_limit-limit.ensures in
    let went = rw c.row.ensures.is at c.go_on-stand.ensures in (
      (λ s₀ ls i. let (next, y) = went s₀ i.moment in
          tells_all (last_line (outcome_of c.go_on-stand.result.ending) m.steps m.loops ∷ []) refl
          (put_one (last_line (outcome_of c.go_on-stand.result.ending) m.steps m.loops) c.put_last.ensures.0)
          (last_line_lem i next y c.args.self.now.fuel (sym c.if-m-steps.true) (limit_or_fuel limits))),
      ((λ m e. cc), omega (arith, c.put_last.ensures.1, c.put_last.ensures.0.keeps)),
    )

pub returns : goal.returns
returns c =
    let limits = rw c.from-fuel.ensures at c.next_limit-limit.ensures in
    let went = rw c.row.ensures.is at c.go_on-stand.ensures in
    let (s₀, ls, i) = c.requires.by_index in
    let (next, y) = went s₀ i.moment in
    let within = goes_no_back i next y limits.1 in
    let one : c.go_on-stand.result.machine.steps ≡ suc c.args.machine.steps = omega (arith, within, limits, c.if-m-steps.false) in (
      (λ s₀ ls i. let (next, y) = went s₀ i.moment in
          tells_on (_ ∷ []) refl (put_one _ c.put_line.ensures.0) (one_more_line i next y one)),
      (
        (λ m e. let q : m.steps ≡ c.go_on-stand.result.machine.steps = cc in (omega (arith, within, limits), omega arith)),
        omega (arith, c.put_line.ensures.1, c.put_line.ensures.0.keeps),
      ),
    )
