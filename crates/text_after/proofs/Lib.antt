-- The laws of the text.
pub mod Showing  -- what is shown of the routine's own locations is the text's answer
pub mod OneAnswer  -- the contract of the text leaves one answer
pub mod EveryText  -- the text answers every list of bytes, with every store, number of steps and buffer
