-- The refusals of a list of instances.
pub mod Faults
-- Lists changed at one place.
pub mod Lists
-- Lists of what has a name, in byte order of the names.
pub mod Named
-- The moments of respawns, as many as the limit counts.
pub mod Moments
-- What becomes of an instance, one change at a time.
pub mod Changes
-- The instances of a job, as contracts see them.
pub mod InstanceLists
-- The instances of all jobs, as contracts see them.
pub mod JobLists
-- Whether an instance waits for an event of its own.
pub mod Waiting
-- An event that finishes blocks nobody any more.
pub mod Unblocking
-- What the instances are after somebody has written to what a `stop on` remembers.
pub mod Lending
-- When the timer kills main, by what is kept of an instance.
pub mod Timers
-- The alarm: the timer kills nobody before the clock reads it.
pub mod Alarms
