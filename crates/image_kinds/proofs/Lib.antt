pub mod Common
pub mod Reading
pub mod Again
pub mod Fronts
pub mod Values
pub mod Readings
mod Rows
pub mod Writing
pub mod Orders
pub mod Trees
pub mod Chains
pub mod ChainLaw
