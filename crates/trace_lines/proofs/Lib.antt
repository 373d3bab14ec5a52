-- The laws of the lines.
pub mod FirstLine  -- the first line, and the whole of them
pub mod NextLine  -- which line comes next
pub mod LineParts  -- the lines in the parts that are written one after the other
pub mod Telling  -- lines that are told after other lines
