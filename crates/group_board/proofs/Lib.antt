pub mod Headlined
pub mod Running
mod Putting
mod Threading
