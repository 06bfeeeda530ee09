pub mod Octets
pub mod Halves
pub mod Cuts
pub mod Parts
pub mod Operations
