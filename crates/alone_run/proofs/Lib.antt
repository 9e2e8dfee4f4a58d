pub mod Performing
pub mod Widths
