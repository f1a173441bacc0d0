pub mod Journal
pub mod Setting
pub mod Seat
pub mod Rule
pub mod Steps
pub mod Insides
