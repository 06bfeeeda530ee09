pub mod Accessing
pub mod Enablings
