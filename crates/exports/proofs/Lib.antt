-- The laws of the exported functions.
pub mod OneAnswer  -- each contract leaves one answer
