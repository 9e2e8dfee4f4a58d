pub mod Bounds
pub mod Shown
pub mod Told
pub mod Driven
