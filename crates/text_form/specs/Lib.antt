-- Request 1 of 02: the text form, read and written. In the order of reading:
pub mod Form  -- which texts are of the form, and where a text leaves it
pub mod Numbers  -- integers out of range and locations over 255, by their place in the text
pub mod Reading  -- the refusals of reading, and what it answers
pub mod Showing  -- the refusals of writing, and what it answers
pub mod Digits  -- digits in a row of bytes, computed
pub mod Parser  -- the tree of a text, computed
pub mod Automaton  -- the form, byte by byte
pub mod Small  -- trees whose numbers a routine can hold, for contracts
