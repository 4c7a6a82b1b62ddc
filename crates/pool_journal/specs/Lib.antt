pub mod Fields
pub mod Segments
pub mod Entries
pub mod Rooms
pub mod Records
pub mod Stops
pub mod Faults
