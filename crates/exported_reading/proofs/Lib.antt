-- The laws of the exported reading and writing.
pub mod OneAnswer  -- each contract leaves one answer
