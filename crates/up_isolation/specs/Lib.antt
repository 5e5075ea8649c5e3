-- A job's view, which is what comes to its notice, and its deeds, which are what it does.
pub mod Views
-- A job's part of a run: its view and all else that is about it.
pub mod Parts
-- When two configurations mean the same by a job.
pub mod Isolation
-- What a job does in each step of a run.
pub mod Steps
-- A job in runs, from their start.
pub mod Runs
