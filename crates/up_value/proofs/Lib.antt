pub mod BindingLemmas
pub mod PlaceLemmas
pub mod Texts
