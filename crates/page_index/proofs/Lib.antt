pub mod Around
pub mod Found
pub mod Kids
pub mod Maps
pub mod Order
