pub mod Eligible
pub mod Marks
pub mod Cleanup
