pub mod Pairs
pub mod Kept
pub mod Table
pub mod Short
