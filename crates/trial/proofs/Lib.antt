pub mod Outcomes
pub mod Counts
pub mod Drawn
pub mod Joined
