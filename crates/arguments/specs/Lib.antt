-- What the words' numbers promise.
pub mod Says  -- the number of a word, or that there is none
