-- What the text promises.
pub mod Says  -- its answer, in 01's numbers and values
pub mod Shows  -- what a moment's text comes to in a lent buffer
