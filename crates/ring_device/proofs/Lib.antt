pub mod Walked
pub mod Steps
pub mod Told
pub mod Pairs
