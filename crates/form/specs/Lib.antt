-- What the pass over a text says, and what holds on its way. In the order of reading:
pub mod Verdicts  -- what it says of the whole text
pub mod Levels  -- the forms that are open before a byte
pub mod Places  -- what is to come at a byte, and what each part of the pass finds there
pub mod Table  -- the innermost levels, kept
