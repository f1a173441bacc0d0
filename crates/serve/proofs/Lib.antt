mod Turns
mod Sessions
mod Wires
mod Surfaces
pub mod Authors
