-- What the functions that open a routine promise.
pub mod Tables  -- tables that are read under a mask
pub mod Shapes  -- one node: whether it keeps the layout, and its places, from its children's
pub mod Subtrees  -- what is known of a node's subtree
pub mod Says  -- what the head, the layout and opening say
