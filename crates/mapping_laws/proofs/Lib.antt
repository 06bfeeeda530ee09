pub mod Alone
pub mod Cases
pub mod Landings
pub mod Lowest
pub mod Through
