pub mod Listed
pub mod Mapping
pub mod Registers
