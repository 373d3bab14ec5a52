-- The laws of the stored routine.
pub mod Signed  -- two's complement, both ways
pub mod Parts  -- the bytes of some nodes in a row
pub mod Fits  -- what a routine can hold, part by part
pub mod Subtrees  -- where a tree stands, its nodes stand
pub mod Reader  -- one tree at a node at most
pub mod Stages  -- the laws of orders of refusals
pub mod Opens  -- what is known where no refusal of 1 to 9 is given
pub mod StillAccepted  -- no row that 01's depth let pass is refused
pub mod Admission  -- the admission of a row, whatever is lent with it
pub mod ReadBack  -- reading the stored form gives back the tree
pub mod WrittenBack  -- accepted bytes are the stored form of their tree
pub mod StoredBytes  -- the stored form is made of bytes
pub mod OneAnswer  -- any two answers allowed are equal
pub mod Traces  -- `trace` prints one list of lines
pub mod Acceptance  -- what the check's answers say of the bytes
pub mod SetBits  -- the bits of the check's two words
pub mod RunAnswers  -- what the run's answers say, and that there is one
pub mod LowestFirst  -- the first refusal of each of 01's lists is the lowest that applies
pub mod ValueLists  -- values read from bytes, one more at a time
pub mod Example  -- the bytes of 01's worked example, and what is printed for it
