pub mod Examples
pub mod Replies
pub mod Spelled
pub mod Writable
