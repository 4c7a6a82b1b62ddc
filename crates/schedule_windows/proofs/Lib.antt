pub mod Common
pub mod Dates
pub mod Rules
pub mod Steady
pub mod Walks
pub mod Opens
pub mod Rounds
