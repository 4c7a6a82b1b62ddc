pub mod LineLemmas
pub mod Rows
