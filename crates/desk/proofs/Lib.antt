pub mod Joining
pub mod Settling
