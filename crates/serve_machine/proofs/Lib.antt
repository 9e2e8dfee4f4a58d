pub mod Limits
pub mod Short
pub mod ShortCompletions
pub mod Replies
pub mod RunGrammar
pub mod Causes
