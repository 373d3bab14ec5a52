-- The laws of the writers.
pub mod TextForms  -- the text of a node by its form; where its children stand
pub mod NumberLengths  -- the length of a number's text
pub mod TextLengths  -- the length of a node's text, and its limits
pub mod PutLaws  -- two writes in a row are one; the room that the first of them leaves
pub mod Digits  -- the digits of a number that has one of them or two
pub mod Signs  -- the text of a number by its sign
