-- What the chronicle says of an instance.
pub mod Summaries
-- What is kept of instances, seen as summaries.
pub mod Views
-- An event that finishes blocks nobody any more.
pub mod Unblocking
-- What the book stands for.
pub mod Keeps
-- The event of a turn.
pub mod Turning
-- What a step asks for, by what is kept.
pub mod Sending
-- Which jobs hear of an event.
pub mod Hearers
-- Which places of the chronicle the keys of a book stand for.
pub mod Keys
-- What is said of each history for which a book stands.
pub mod Histories
