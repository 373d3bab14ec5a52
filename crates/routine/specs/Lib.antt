-- The code's own values, in terms of the definitions.
pub mod Forms  -- the forms by their kinds, and a node's parts
pub mod Says  -- 01's number and values for each refusal
pub mod Open  -- what is known of a routine that was opened
