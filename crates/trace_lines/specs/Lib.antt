-- What the lines of `trace` promise.
pub mod Lines  -- the lines of a run, as far as it has come
pub mod Says  -- what is left in the buffer, and where the run stands then
