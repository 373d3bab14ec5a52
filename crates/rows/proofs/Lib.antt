-- The laws of the program `rows`.
pub mod Buffers  -- what a call put into a lent buffer lies in it
