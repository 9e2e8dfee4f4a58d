pub mod Limits
pub mod Admin
pub mod Bounds
