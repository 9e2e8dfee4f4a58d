pub mod Members
pub mod ShortReplies
