pub mod Queues
pub mod Holding
pub mod Vectors
pub mod Replies
pub mod Kept
