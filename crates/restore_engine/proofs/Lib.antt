pub mod ChainLemmas
pub mod ReferenceLemmas
pub mod Rows
