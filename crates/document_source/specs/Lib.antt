pub mod Reading
pub mod Feeding
