pub mod AtDesk
pub mod Served
pub mod Doors
pub mod Surfaces
