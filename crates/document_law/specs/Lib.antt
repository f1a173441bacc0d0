pub mod Drafts
pub mod Surveyed
pub mod Law
pub mod Version
pub mod Reloaded
