pub mod Machine
pub mod Within
pub mod Grammar
pub mod Floors
pub mod Runs
