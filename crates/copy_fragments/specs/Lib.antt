pub mod Copies
pub mod PlacingSteps
pub mod Placings
pub mod WholeCopies
