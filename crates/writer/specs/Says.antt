-- The answer of the writer, in 01's numbers and values.
use Rattle.std.specs.Prelude.{ℕ, Result, Ok, Err}
use Rattle.text_form.specs.Showing.{Shown, refuses, shown}
use Rattle.routine.specs.Says.{refusal_of}
use Rattle.routine.specs.declared.Refusal.{Refusal}

abbrev pub shown_of : Result ℕ Refusal → Shown
shown_of (Err r) = refuses (refusal_of r)
shown_of (Ok n) = shown n
