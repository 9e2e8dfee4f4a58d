pub mod Draws
pub mod Bounds
