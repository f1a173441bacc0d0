pub mod Loads
pub mod Law
