pub mod FullLimits
pub mod Codes
pub mod Wholes
pub mod Trials
pub mod Wordings
pub mod Made
pub mod Idle
