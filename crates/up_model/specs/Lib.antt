pub use Rattle.up_value.specs.Values
-- Signals as they are written.
pub mod Signals
-- What a run stands on.
pub mod Configuration
-- The chronicle.
pub mod Chronicle
-- Tests on the values of a run, which compute.
pub mod Predicates
-- Readings of the chronicle.
pub mod Readings
-- The instances that exist.
pub mod Instances
-- Which job file a name and an instance go by.
pub mod Files
-- Which jobs are in force, and what a load does (initctl(8), "reload-configuration").
pub mod Loads
-- The environment of a job, and which instance a start by it concerns (init(5), "Job environment" and "instance").
pub mod Environments
-- The clock, and what depends on it.
pub mod Clock
-- The queue of events, oldest first (starting(7), stopping(7)).
pub mod Queue
-- What an expression has seen, and what it says of that (init(5), "start on" and "stop on").
pub mod Seen
-- Which events may not finish yet, and which were spoilt (starting(7), the Upstart Cookbook on blocking events).
pub mod Held
-- The life of an instance.
pub mod Life
-- The events that an instance emits, and the environment of a start.
pub mod Events
-- Requests, and what each of them may have (initctl(8)).
pub mod Requests
-- What a client reads of an instance (status(8), initctl(8) "list").
pub mod Status
-- What clients are told of instances and events.
pub mod Replies
-- How instances move from state to state (the Upstart Cookbook's table of states).
pub mod Moves
-- What the end or the refusal of a process does to its instance (init(5), "normal exit").
pub mod Judgement
-- How the event of a turn is offered to the expressions, and what one does that fires (init(5), "start on" and "stop on").
pub mod Offers
-- What each request does (initctl(8)).
pub mod Commands
-- What a step does.
pub mod Due
-- How often something can still be due, and doing it so often.
pub mod Work
-- What the entries of a step ask for.
pub mod Outputs
-- A run.
pub mod Answers
-- What the laws say of a run.
pub mod Laws
-- What the laws say of what instances do.
pub mod Blocks
-- The numbers by which the programs end (initd(8) and initctl(8), EXIT STATUS).
pub mod ExitStatuses
-- How many processes the instances may still order before they wait for an event.
pub mod Left
