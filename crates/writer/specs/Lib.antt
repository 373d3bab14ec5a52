-- What the writer promises.
pub mod Says  -- its answer, in 01's numbers and values
pub mod Own  -- what each node adds to the length of the text
