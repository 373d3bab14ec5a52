-- The run with fuel, computed: `run_of`. proofs/RunOf.antt has both directions.
use Rattle.std.specs.Prelude.{ℕ, zero, suc, ◌+◌}
use Rattle.std.proofs.Math.Option.{Option, none, some}
use Rattle.l1.specs.Syntax.{Expr}
use Rattle.l1.specs.Store.{Store}
use Rattle.l1.specs.Steps.{Rule}
use Rattle.l1.specs.Run.{whiles, value, overflow, fuel, Answer, answer}
use Rattle.l1.specs.Next.{Act, ends, overflows, steps, next}

abbrev pub one_more : Rule → Option Answer → Option Answer
one_more r (some (answer o T K e s)) = some (answer o (suc T) (whiles r + K) e s)
one_more r none = none

-- by what is next: the end here, or `go` of the step
abbrev pub from : Expr → Store → (Rule → Expr → Store → Option Answer) → Option Act → Option Answer
from e s go (some ends) = some (answer (value e) 0 0 e s)
from e s go (some (overflows n)) = some (answer (overflow n) 0 0 e s)
from e s go (some (steps r e' s')) = go r e' s'
from e s go none = none

unfoldable pub run_of : ℕ → Expr → Store → Option Answer
run_of zero e s = from e s (λ r e' s'. some (answer fuel 0 0 e s)) (next e s)
run_of (suc f) e s = from e s (λ r e' s'. one_more r (run_of f e' s')) (next e s)
