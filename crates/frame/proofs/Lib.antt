pub mod Steps
pub mod Telegrams
pub mod Whole
pub mod InPlace
