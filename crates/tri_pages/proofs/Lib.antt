pub mod Chains
pub mod Taken
