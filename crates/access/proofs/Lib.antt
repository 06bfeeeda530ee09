pub mod Fields
pub mod Arrays
