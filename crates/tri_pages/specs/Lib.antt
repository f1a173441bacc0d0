pub mod FreeChain
pub mod Slots
