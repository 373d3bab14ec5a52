-- An input of `trace` of which nothing is refused.
use Rattle.std.specs.Prelude.{ℕ, ◌+◌, ◌*◌, ◌≡◌, List, length}
use Rattle.stored.specs.Stages.{Passes}
use Rattle.stored.specs.Refusals.{locations, routine, after_routine, tracing}
use Rattle.routine.specs.Open.{Runnable}

-- the input is a routine that may be run, the fuel, and the values
pub record Admitted (input : List ℕ) : Type 0 where
  pub passes : Passes (tracing input)
  pub runnable : Runnable (routine input)
  pub rest : length (after_routine input) ≡ 4 + 4 * locations (routine input)
