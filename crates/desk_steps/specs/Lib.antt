pub mod Steps
pub mod Readings
pub mod Asked
pub mod Openings
pub mod Backups
pub mod Chains
