pub mod Compiling
pub mod Limits
pub mod Outcomes
pub mod Reading
pub mod Rereading
pub mod Stored
pub mod Telling
