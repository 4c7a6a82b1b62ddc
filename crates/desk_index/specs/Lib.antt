pub mod Index
pub mod Replays
pub mod Answers
pub mod Changes
