pub mod Splits
pub mod Zeros
