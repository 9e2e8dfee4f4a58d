pub mod Group
pub mod Completion
pub mod Answers
pub mod Kept
