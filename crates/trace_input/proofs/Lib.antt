-- The laws of the input of `trace`.
pub mod InputParts  -- where the routine, the fuel and the values stand in the input
pub mod OneAnswer  -- the contract of `take_in` leaves one answer
pub mod EveryInput  -- `trace` prints exactly one list of lines for every input
