pub mod Meaning
pub mod Histories
pub mod Seats
pub mod Order
pub mod Counters
