pub mod Answers
pub mod Cuts
pub mod Masks
pub mod Halves
pub mod Joins
pub mod Operations
