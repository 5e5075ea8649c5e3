-- What is printed of a record.
pub mod Views
-- What a lint of a folder prints.
pub mod Lints
-- What is printed of what a reload changes.
pub mod Compares
-- Whether two values of a job's field are the same.
pub mod Same
-- The parts of a job.
pub mod Parts
-- What changes from one list of jobs to another.
pub mod Changes
