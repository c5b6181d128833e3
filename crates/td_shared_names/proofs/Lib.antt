pub mod Called
pub mod Passing
pub mod Seen
