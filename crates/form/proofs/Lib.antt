-- The laws of the pass. In the order of reading:
pub mod Bytes  -- one byte, and a word
pub mod Numbers  -- what the readings of words and numbers find
pub mod Telling  -- what each token says
pub mod Tables  -- the table of levels, and a turn of the pass
pub mod OneVerdict  -- no two verdicts are allowed
