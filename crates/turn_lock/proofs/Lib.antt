pub mod Queue
pub mod Prefix
pub mod Authors
pub mod Stages
pub mod Moves
pub mod Seats
pub mod Rests
pub mod Gathers
