pub mod Disabling
pub mod Disabled
pub mod Apart
pub mod Reads
pub mod Rest
pub mod Notified
pub mod Touched
