pub mod Route
pub mod Configuration
