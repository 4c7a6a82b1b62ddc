pub mod Answered
pub mod Changes
pub mod Finding
pub mod Links
pub mod PieceLemmas
pub mod Placings
pub mod Sweeping
pub mod Troubles
