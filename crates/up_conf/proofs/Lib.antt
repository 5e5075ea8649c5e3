pub mod Ascending
pub mod Endings
pub mod Folders
pub mod Gathers
pub mod Lookups
pub mod Meanings
pub mod Overriding
pub mod Reports
