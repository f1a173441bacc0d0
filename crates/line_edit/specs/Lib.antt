pub mod Counts
pub mod Crossings
pub mod Edges
pub mod Ends
pub mod Removals
pub mod Ways
