pub mod Places
pub mod Overwriting
