pub mod Building
pub mod Complete
pub mod Counting
pub mod Flattening
pub mod Going
pub mod Laid
pub mod Sound
pub mod Truths
