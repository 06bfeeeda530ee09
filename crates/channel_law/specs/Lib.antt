pub mod Sound
pub mod Story
pub mod Runs
pub mod Law
pub mod Enabling
