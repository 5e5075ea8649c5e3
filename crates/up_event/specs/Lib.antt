-- What a contract sees of the live events.
pub mod LiveEvents
-- How the live events are linked in memory.
pub mod Links
-- Which event a turn is for.
pub mod Turns
