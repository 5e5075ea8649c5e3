-- The refusals of an engine.
pub mod Faults
-- The inputs that take no memory.
pub mod Free
-- What the effect of an input hands on.
pub mod Effects
-- What the code of requests hands on.
pub mod Requests
-- What an engine stands for.
pub mod Stands
-- What the book of an engine is at rest.
pub mod Sound
-- Runs of compiled folders that mean the same by a job.
pub mod Alike
-- What the timer has found.
pub mod Found
