-- The laws of reading and writing.
pub mod AnyShown  -- what opens is shown, well typed or not
pub mod OneShowing  -- writing has one answer
pub mod TakenFits  -- the routine that is read stands in the lent room
pub mod Notation  -- decimal notation and digits in a row, both ways
pub mod Forward  -- the automaton takes the text of each tree
pub mod Backward  -- what the automaton takes to the end begins with the text of a tree
pub mod Fitting  -- the automaton against the form, both ways
pub mod OnePlace  -- a text leaves the form at one place at most
pub mod Numbering  -- each operator numbered by its own node
pub mod Found  -- the parser finds a tree from its text
pub mod Parsing  -- what the parser answers
pub mod OneTree  -- a text is that of one tree, but for the numbers of its operators
pub mod LongestText  -- less than 14 bytes for each node
pub mod OneReading  -- one answer of reading
pub mod StillRead  -- no text that was read before request 2 is refused now
pub mod RoundTrip  -- reading and writing, both ways round
pub mod SmallNumbers  -- no large number: numbers that a routine can hold
