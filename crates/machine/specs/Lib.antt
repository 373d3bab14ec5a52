-- What the machine's state means, and what its functions promise.
pub mod Contexts  -- pending places as contexts of the rules
pub mod State  -- the machine's values in terms of the definitions
pub mod Acts  -- what an act does, and what it comes to
pub mod Moment  -- the moment of a run that a state stands for
