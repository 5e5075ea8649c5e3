-- What inputs show, one after another.
pub mod Watching
-- What is printed of a record over an image.
pub mod Viewing
-- A test of two values is true exactly if they are equal.
pub mod Sameness
