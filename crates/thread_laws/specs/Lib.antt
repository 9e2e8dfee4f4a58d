pub mod Gathered
pub mod Idle
