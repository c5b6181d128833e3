pub mod Examples
pub mod Journals
pub mod Laws
pub mod Seen
pub mod Turns
