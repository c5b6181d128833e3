pub mod Noted
pub mod Scripts
pub mod Storing
