-- What the writers promise.
pub mod Put  -- what a writer leaves in a lent buffer
pub mod Pages  -- the same of a page, which holds the buffer and the place
pub mod Texts  -- the form and the text of a node
pub mod Lengths  -- a table of the lengths of the nodes' texts
