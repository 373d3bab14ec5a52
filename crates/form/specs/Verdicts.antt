-- The contract of `form`: what it says of the text t.
use Rattle.std.specs.Prelude.{ℕ, List, Result, Ok, Err}
use Rattle.text_form.specs.Form as text

abbrev pub Says : List ℕ → Result (Unit {0}) ℕ → Type 0
Says t (Ok _) = text.OfForm t
Says t (Err i) = text.Leaves t i
