pub mod Spoken
pub mod Grammar
pub mod Fault
pub mod Scanning
pub mod Within
pub mod Reading
pub mod Laws
pub mod Replies
