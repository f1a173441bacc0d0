pub mod SlopeList
pub mod Volumes
