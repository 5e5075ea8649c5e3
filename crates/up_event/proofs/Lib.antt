pub mod Lists
pub mod Linking
pub mod Steps
pub mod Search
pub mod NextTurn
pub mod CallerLemmas
