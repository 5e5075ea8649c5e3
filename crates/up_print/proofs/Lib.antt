pub mod Beginnings
pub mod Explaining
pub mod Growing
pub mod Plain
pub mod Reports
-- Texts to which one piece is appended after another.
pub mod Joining
