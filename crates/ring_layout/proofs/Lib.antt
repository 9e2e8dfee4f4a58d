pub mod Chains
pub mod Layouts
pub mod Parts
