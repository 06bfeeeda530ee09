pub mod Bits
pub mod Shares
