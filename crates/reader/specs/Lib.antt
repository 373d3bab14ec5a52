-- What the reader promises.
pub mod Says  -- its answer, in 02's numbers and values
pub mod Enough  -- when a slice has room for the nodes of a text
