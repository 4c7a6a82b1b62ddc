pub mod Faults
pub mod Free
pub mod Index
pub mod Pieces
pub mod Placing
pub mod Slots
