pub mod ItemReading
pub mod Lone
pub mod Matches
pub mod PatternLaws
pub mod Segments
pub mod SetReading
pub mod Unclosed
