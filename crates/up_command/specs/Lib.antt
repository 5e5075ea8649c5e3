-- The status of what a command line asks for.
pub mod Answers
