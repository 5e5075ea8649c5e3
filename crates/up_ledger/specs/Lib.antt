-- What a change makes of a summary.
pub mod Stepping
-- What is known of an instance by what is kept of it.
pub mod Knowing
-- How often an event is held.
pub mod Counting
-- The live events, and where they were queued.
pub mod Eventing
-- What holds of a chronicle that a run brings about.
pub mod Regular
-- What each expression in force remembers of what it has seen.
pub mod Remembering
-- What clients are answered that held an instance.
pub mod Replying
-- Events that are held once more, or once less.
pub mod Holding
-- What the whole book stands for.
pub mod Standing
-- How many processes may still be ordered, by what is kept.
pub mod Lefts
-- What the request of a step acted on.
pub mod Requesting
-- The request of a step.
pub mod Asking
-- What a step that isn't over has asked for, and what its request acted on.
pub mod Steps
-- What an offer and a firing make of a trigger.
pub mod Hearing
-- What a ledger stands for.
pub mod Ledgers
-- What is said of each history that a book forgets.
pub mod Histories
