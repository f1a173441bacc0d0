pub mod Consumed
pub mod Ends
pub mod Lengths
pub mod LineReplies
pub mod Quits
pub mod Sessions
pub mod Streams
pub mod Exchanges
pub mod Answering
pub mod Stepped
pub mod Moves
pub mod Runs
mod Served
pub mod Alone
