-- The laws of the run.
pub mod OneAnswer  -- the contract of the run leaves one answer
