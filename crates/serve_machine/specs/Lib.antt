pub mod Completion
pub mod Grammar
pub mod Floors
pub mod Service
pub mod Within
pub mod Runs
pub mod Causes
