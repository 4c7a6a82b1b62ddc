pub mod Rows
pub mod StableLemmas
pub mod ChoiceLemmas
pub mod PrefixLemmas
