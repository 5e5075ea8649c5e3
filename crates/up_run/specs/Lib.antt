-- What a run begins with.
pub mod Starts
-- What a run loads when a client asks for its configuration again.
pub mod Reloads
-- Which calls of a host failed in a round.
pub mod Faults
-- How long a client has been silent.
pub mod Silences
-- The comment with which a record begins.
pub mod Heads
-- What waits of the lines that are told.
pub mod Outlets
-- How long a run pauses.
pub mod Paces
