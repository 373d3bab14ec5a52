-- What `store` takes in.
pub mod Taken  -- the text in its input, and a number in four bytes
