pub mod Agreeing
pub mod Faults
pub mod Lines
pub mod Loaded
pub mod Streams
pub mod Reaching
pub mod Report
pub mod Rewriting
