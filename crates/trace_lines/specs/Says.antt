-- What is left on a page and where the run stands then: the lines from its place on are the next ones, and all are told where no machine is answered.
use Rattle.std.specs.Prelude.{ℕ, ◌≤◌, ◌<◌, ◌≡◌, Option, None, Some, List, ◌++◌, length}
use Rattle.l1.specs.Store.{Store}
use Rattle.machine.specs.declared.state.Pending.{Pending}
use Rattle.machine.specs.declared.state.Machine.{Machine}
use Rattle.node_text.specs.declared.Page.{Page}
use Rattle.node_text.specs.Pages.{Puts}
use Rattle.trace_lines.specs.Lines.{AllLines, LinesAt, joined}

-- lines `ls` were told before; p is where the places stand now, and s the store
pub data Tells (b : List ℕ) (s₀ : Store) (f : ℕ) (ls : List (List ℕ)) (before after : Page) (p : Pending) (s : Store) (r : Option Machine) : Type 0 where
  tells_on : (ms : List (List ℕ)) {m : Machine} → r ≡ Some m
      → Puts before (joined ms) after → LinesAt b s₀ (ls ++ ms) p m s
      → Tells b s₀ f ls before after p s r
  tells_all : (ms : List (List ℕ)) → r ≡ None
      → Puts before (joined ms) after → AllLines b s₀ f (ls ++ ms)
      → Tells b s₀ f ls before after p s r

-- where the last line is not yet told, a step was made; and what was told is in the page's room
abbrev pub Advanced : ℕ → ℕ → Page → Option Machine → Type 0
Advanced f T after r = ((m : Machine) → r ≡ Some m → (m.steps ≤ f) × (T < m.steps)) × (after.at ≤ length after.room.now)
