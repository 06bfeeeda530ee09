pub mod Settings
pub mod Windows
pub mod Facts
pub mod Services
pub mod Areas
