pub mod Bounds
pub mod Asked
pub mod Comes
pub mod Fed
pub mod Goes
