pub mod Entries
pub mod Parity
