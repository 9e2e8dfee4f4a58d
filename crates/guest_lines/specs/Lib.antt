pub mod Lines
pub mod Earlier
pub mod Widths
