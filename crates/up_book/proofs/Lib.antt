pub mod Lists
pub mod One
pub mod Tables
pub mod Keyed
pub mod NextHearers
pub mod Others
pub mod Signalling
