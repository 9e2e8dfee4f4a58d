pub mod Stages
pub mod Found
pub mod Outcomes
pub mod Served
pub mod Alike
pub mod Accesses
