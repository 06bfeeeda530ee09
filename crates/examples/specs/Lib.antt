pub mod FrameCases
pub mod Driving
