-- What first_large and nodes_of say, and what their loops compute.
pub mod Limits  -- what the two functions say of a text of the form
pub mod Marks  -- what the loops compute of the bytes
