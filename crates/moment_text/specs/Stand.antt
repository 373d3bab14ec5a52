-- What the writers of a moment ask of its places, and the text that the moment has.
use Rattle.std.specs.Prelude.{ℕ, ◌≤◌, ◌<◌, List, length, get_or}
use Rattle.l1.specs.Text.{text}
use Rattle.stored.specs.Refusals.{count}
use Rattle.routine.specs.Open.{Opened}
use Rattle.machine.specs.Contexts.{plug}
use Rattle.machine.specs.State.{expr_of, Held, blank, stack}
use Rattle.machine.specs.declared.state.Pending.{Pending}
use Rattle.machine.specs.declared.state.Place.{Place}
use Rattle.machine.specs.declared.state.Work.{Work}
use Rattle.node_text.specs.Lengths.{LengthsOf}

abbrev pub place_in : Pending → ℕ → Place
place_in p j = (get_or p.frames j blank).place

pub record Stands (b : List ℕ) (p : Pending) : Type 0 where
  pub opened : Opened b
  pub few : p.height ≤ 256
  pub held : (j : ℕ) → j < p.height → Held b (place_in p j)

abbrev pub moment_text : List ℕ → Pending → Work → List ℕ
moment_text b p x = text (plug (stack b p.frames p.height) (expr_of b x))

-- the table has the lengths of all nodes' texts
abbrev pub Measured : List ℕ → List ℕ → Type 0
Measured b lengths = (count b ≤ length lengths) × LengthsOf b (count b) lengths
