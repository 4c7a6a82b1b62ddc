pub mod Common
pub mod Lines
pub mod Wholes
pub mod InTurn
