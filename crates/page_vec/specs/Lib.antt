pub mod Levels
pub mod Packed
