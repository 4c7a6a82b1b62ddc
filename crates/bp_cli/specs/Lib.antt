pub mod Words
pub mod Gather
pub mod Payload
pub mod Runs
pub mod Singles
pub mod Sessions
