pub mod ByPlace
pub mod Sound
pub mod Along
pub mod Joints
pub mod Ends
