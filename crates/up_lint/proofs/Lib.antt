-- The stanzas of a text, one after another.
pub mod Heads
-- The first piece of a text, and the others.
pub mod Splits
-- What a loop over a list has found, one item further.
pub mod Steps
-- The file of a path, one file further.
pub mod Files
-- What warnings are about, node by node.
pub mod Gathered
-- A round that finds no job is followed by none that does.
pub mod Rounds
-- Names that are added after others.
pub mod Adding
