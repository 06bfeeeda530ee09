pub mod Lands
pub mod Moves
pub mod Serves
pub mod Whole
pub mod Worked
