pub mod Limits
pub mod SoFar
pub mod Lines
pub mod Forms
pub mod Script
pub mod Bounds
pub mod Shapes
