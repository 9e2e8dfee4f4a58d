pub mod Transcript
pub mod Kept
