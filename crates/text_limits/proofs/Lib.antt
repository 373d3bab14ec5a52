-- The laws of the passes.
pub mod Counting  -- the nodes of a text by its bytes
pub mod Flags  -- the marks of a text, put together as the text is
pub mod Larges  -- the marks of a text stand at its tree's large numbers
pub mod Passing  -- the passes, byte by byte
