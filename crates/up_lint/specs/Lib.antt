-- The stanzas of a file as they stand there.
pub mod Heads
-- The stanzas of a job.
pub mod Sheets
-- The pieces of a text.
pub mod Pieces
-- Sets of names.
pub mod Names
-- What the commands and the scripts of jobs say.
pub mod Commands
-- Which events come in a folder, and which jobs it has.
pub mod Events
-- Which jobs can be started at all.
pub mod Circles
-- Which jobs no event stops.
pub mod Stops
-- Which variables stand in the jobs of a folder.
pub mod Exports
-- Warnings, and the line that is printed of each.
pub mod Warnings
-- What is asked of each event that an expression waits for.
pub mod Questions
-- The warnings of a folder.
pub mod Lint
