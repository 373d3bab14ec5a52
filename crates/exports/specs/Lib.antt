-- What the exported functions promise.
pub mod Says  -- the answers of the check, the run and the text in numbers
