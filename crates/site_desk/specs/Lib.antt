pub mod Stands
pub mod Desk
