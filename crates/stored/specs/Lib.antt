-- The stored routine as 01 defines it. In the order of reading:
pub mod Bytes  -- numbers in bytes
pub mod Stored  -- the bytes of a tree
pub mod Layout  -- the tree that stands at a node of the bytes
pub mod Reader  -- Layout, computed
pub mod Stages  -- refusals, and the rule of their order
pub mod Refusals  -- the numbers of refusal, when each is given, in their order
pub mod Answers  -- what opening, the check, the run and the text answer
pub mod Trace  -- the lines that `trace` prints
pub mod Headed  -- the first six bytes of what opens, for contracts
