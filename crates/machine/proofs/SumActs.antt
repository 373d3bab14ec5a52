-- A sum in range is a step of the rules, and a sum out of range an overflow.
use Prim.Native.Nat.{ℕ}
use native.Mathlib.Omega.{arith}
use mathlib.Core.Path.{◌≡◌}
use mathlib.Core.Logic.{◌⊎◌, inl, inr}
use lib.IntN.{ℤ, ◌+ℤ◌}
use Rattle.std.specs.Prelude.{Some, None}
use Rattle.l1.specs.Range.{InRange, OutOfRange}
use Rattle.l1.specs.Steps.{op+}
use Rattle.l1.specs.Overflow as o
use Rattle.l1.proofs.Range.{in_or_out, test_in, test_out}
use Rattle.sums.specs.Sum.{sum_of}
use Rattle.machine.specs.Acts.{worked, over, Summed}
use Rattle.machine.specs.declared.state.Work.TheVariants as w
use Rattle.machine.specs.declared.state.Act.TheVariants as a
use Rattle.machine.specs.declared.state.Rule.TheVariants as named
use Rattle.machine.specs.declared.state.Turn.{Turn}
use Rattle.machine.proofs.NodeActs.{CameTo, came_to}

module _ (l v : ℤ) where
  is_in : InRange (l +ℤ v) → sum_of l v ≡ Some (l +ℤ v)
  is_in h = rw (test_in (l +ℤ v) h)

  is_out : OutOfRange (l +ℤ v) → sum_of l v ≡ None
  is_out h = rw (test_out (l +ℤ v) h)

  in_sum : {n : ℤ} → sum_of l v ≡ Some n → (n ≡ l +ℤ v) × InRange n
  in_sum {n} q = by (in_or_out (l +ℤ v))
    where
      by : InRange (l +ℤ v) ⊎ OutOfRange (l +ℤ v) → (n ≡ l +ℤ v) × InRange n
      by (inl h) = let k = is_in h in let e : n ≡ l +ℤ v = cc in (e, rw e h)
      by (inr h) = let k = is_out h in let z : ◌≡◌ {A = ℕ} 0 1 = cc in absurd (omega arith)

  out_sum : sum_of l v ≡ None → OutOfRange (l +ℤ v)
  out_sum q = by (in_or_out (l +ℤ v))
    where
      by : InRange (l +ℤ v) ⊎ OutOfRange (l +ℤ v) → OutOfRange (l +ℤ v)
      by (inl h) = let k = is_in h in let z : ◌≡◌ {A = ℕ} 0 1 = cc in absurd (omega arith)
      by (inr h) = h

  module _ (i : ℕ) {t : Turn} where
    pub sums : {n : ℤ} → sum_of l v ≡ Some n → CameTo (w.Int n) a.Rest (Some named.Plus) t → Summed i l v t
    sums {n} q came =
        let (e, h) = in_sum q in
        record { went = λ b c s. came_to came (worked {ρ = named.Plus} {y = w.Int n} {d = a.Rest} (op+ e h) tt tt (omega arith) tt) }

    pub overflows : sum_of l v ≡ None → CameTo w.Skip (a.Over i) None t → Summed i l v t
    overflows q came = record { went = λ b c s. came_to came (over (o.over (out_sum q))) }
