pub mod TwosComplement  -- the cast to a signed number is two's complement
pub mod KindTags  -- the forms' own numbers are their kinds
pub mod Made  -- the tree at a node, by its form
pub mod Standing  -- every node of an opened routine stands, and is a node of the root
pub mod Opening  -- what an answer of opening says
pub mod RefusalNames  -- the code's refusals are told apart by 01's numbers and values
