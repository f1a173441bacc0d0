pub mod Facets
pub mod Parts
pub mod Spots
