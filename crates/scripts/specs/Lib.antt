pub mod Numerals
pub mod Text
pub mod Lines
pub mod Scripts
pub mod Played
