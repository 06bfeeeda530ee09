pub mod Seen
pub mod Replies
pub mod Scripts
