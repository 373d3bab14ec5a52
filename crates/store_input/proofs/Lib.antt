-- The laws of what `store` takes in.
pub mod Four  -- `trace` reads back the number in four bytes
