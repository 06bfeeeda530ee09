pub mod Channel
pub mod Station
pub mod Calls
pub mod Search
pub mod Shown
