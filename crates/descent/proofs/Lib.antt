-- Laws of the descent.
pub mod Words  -- the bytes of a text, and words, byte by byte
pub mod Numerals  -- numbers, digit by digit
pub mod FirstBytes  -- an expression by its first bytes
pub mod Trees  -- nodes, one behind the other, and the tree at the end
