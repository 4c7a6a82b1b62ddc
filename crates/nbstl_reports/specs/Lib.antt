pub mod Lines
pub mod ImageLines
pub mod MediaLines
pub mod OperationLines
pub mod UnitLines
pub mod DueLines
pub mod Fields
