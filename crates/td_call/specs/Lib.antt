pub mod Requests
pub mod Replies
pub mod Readings
pub mod Fetching
pub mod Moving
pub mod Calling
