pub mod Paths
pub mod Streams
pub mod Fields
pub mod Decoding
pub mod Reading
pub mod Images
pub mod Trees
