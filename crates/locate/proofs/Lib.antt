pub mod Angles
pub mod Covered
pub mod Facets
pub mod Parts
pub mod Walks
