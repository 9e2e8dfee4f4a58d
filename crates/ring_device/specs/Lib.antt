pub mod Buffers
pub mod Follow
pub mod Kept
pub mod Answer
pub mod Pair
