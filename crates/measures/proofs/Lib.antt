pub mod Means
pub mod Found
pub mod Shares
pub mod FacetVolumes
pub mod VolumeSums
pub mod Slots
