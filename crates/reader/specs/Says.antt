-- The answer of the reader, in 02's numbers and values.
use Rattle.std.specs.Prelude.{ℕ, Result, Ok, Err}
use Rattle.stored.specs.Stages as S
use Rattle.stored.specs.Stages.{no, no_with}
use Rattle.text_form.specs.Reading as R
use Rattle.reader.specs.declared.Unread.{Unread}
use Rattle.reader.specs.declared.Unread.TheVariants.{Locations, NotOfForm, LargeInteger, LargeLocation, Nodes, Places, Room}

abbrev pub unread_of : Unread → S.Refusal
unread_of Locations = no 4
unread_of (NotOfForm i) = no_with 50 i
unread_of (LargeInteger i) = no_with 51 i
unread_of (LargeLocation i) = no_with 52 i
unread_of Nodes = no 5
unread_of Places = no 9
unread_of (Room n) = no_with 53 n

abbrev pub taken_of : Result ℕ Unread → R.Taken
taken_of (Err r) = R.Taken.refuses (unread_of r)
taken_of (Ok n) = R.Taken.taken n
