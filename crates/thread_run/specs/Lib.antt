pub mod Jobs
pub mod Homes
pub mod Through
pub mod Runs
