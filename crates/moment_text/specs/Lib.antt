-- What the writers of a moment promise.
pub mod Around  -- the text around the part at work
pub mod Stand  -- what is known of the places and the work of a moment
