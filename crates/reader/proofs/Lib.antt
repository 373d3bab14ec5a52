-- The laws of the reader.
pub mod Judging  -- which refusal is first, where a text was not read
pub mod Taking  -- what is answered, and what is left in the lent room
pub mod OneAnswer  -- one answer of `read`
pub mod EveryReading  -- an answer for every text
