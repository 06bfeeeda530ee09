pub mod Octets
pub mod Turns
