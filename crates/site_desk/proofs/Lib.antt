pub mod Standings
pub mod Stepping
pub mod Opening
