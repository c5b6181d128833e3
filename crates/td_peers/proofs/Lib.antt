pub mod Playing
pub mod Smallness
