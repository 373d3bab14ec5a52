-- The laws of opening.
pub mod Order  -- which refusal is the first
pub mod NodeTrees  -- a node that keeps the layout, and the tree at it
pub mod Arities  -- the jump-free forms of a node's tests
pub mod LayoutTurn  -- a turn of the layout's loop
pub mod OneAnswer  -- the contract of opening leaves one answer
pub mod EveryOpening  -- opening answers every list of bytes
pub mod Masks  -- a table under its mask has an entry for each node
