-- What the run promises.
pub mod Says  -- the run's answer, in 01's numbers and values
