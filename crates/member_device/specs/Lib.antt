pub mod Device
pub mod Access
pub mod Plan
pub mod Kept
