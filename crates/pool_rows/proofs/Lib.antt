pub mod Unpinning
