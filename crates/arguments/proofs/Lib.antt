-- The laws of the words' numbers.
pub mod Words  -- a word is the text of one number at most
