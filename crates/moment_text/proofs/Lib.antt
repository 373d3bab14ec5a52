-- The laws of a moment's text.
pub mod TextAround  -- the text of a moment is what opens its places, its work, and what closes them
pub mod ClosingPieces  -- what closes the if that a loop became, in the pieces that are written
pub mod ClosedPlaces  -- the places that are closed so far, from the innermost
pub mod MomentStands  -- a moment is as the writers of its text ask
