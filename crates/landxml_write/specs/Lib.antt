pub mod Exports
pub mod Text
pub mod Sizes
pub mod Found
pub mod Flowing
pub mod Counting
