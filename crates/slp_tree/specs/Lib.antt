pub mod Faults
pub mod Lists
pub mod Places
pub mod Trees
pub mod Lifecycles
pub mod Sorting
pub mod Due
