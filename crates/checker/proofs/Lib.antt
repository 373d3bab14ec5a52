-- The laws behind the check's functions.
pub mod Tables  -- what the words of the code say of each form
pub mod TypeTurn  -- a turn of the type check's loop, and its two ends
pub mod Counting  -- what a node adds to W and the two sets
pub mod Admitting  -- what the admission answers of a routine that was opened
pub mod OneAnswer  -- the contracts of the check and of the admission leave one answer
pub mod EveryRow  -- every row is answered: the check and the run have an answer
