-- What the exported functions promise.
pub mod Says  -- the answers of the reader and the writer in numbers
