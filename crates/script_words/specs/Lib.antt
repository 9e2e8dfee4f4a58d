pub mod Words
pub mod Parts
pub mod Values
pub mod Causes
pub mod Texts
pub mod Shape
pub mod Kept
