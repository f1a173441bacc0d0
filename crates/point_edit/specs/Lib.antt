pub mod Contents
pub mod Degrees
pub mod Insertions
pub mod Pieces
pub mod Removals
pub mod Results
pub mod Stars
