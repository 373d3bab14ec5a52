-- The laws of the writer.
pub mod OwnSums  -- the length of a text, as a sum over the nodes
pub mod Writing  -- a text that was put is what is shown
pub mod OneAnswer  -- the contract of the writer leaves one answer
pub mod EveryRow  -- the writer answers every list of bytes, with every buffer
