-- What the input of `trace` promises.
pub mod Admitted  -- an input of which nothing is refused
pub mod Says  -- its answer, in 01's numbers and values
