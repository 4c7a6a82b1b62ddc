pub mod Turns
pub mod Reads
pub mod Session
