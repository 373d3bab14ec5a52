-- What the functions that check a routine promise.
pub mod Rules  -- one node: its fault, its type, its work and its locations, from its children's types
pub mod Says  -- what the type check, the tally and the check say
pub mod Admits  -- what the admission of a row says
