-- What the descent promises.
pub mod Found  -- what its parts find, held against text_form's Parser
pub mod Forms  -- each form with parts by itself, as the code reads it
