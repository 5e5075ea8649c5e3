-- What a list begins with.
pub mod Lists
-- What patterns admit, by fnmatch(3), where `/` and a leading dot are bytes like any other.
pub mod Pattern
-- What the parts of the matching give.
pub mod Matching
