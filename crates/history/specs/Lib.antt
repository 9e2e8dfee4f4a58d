pub mod Limits
pub mod Places
pub mod Look
pub mod Legal
pub mod Kept
