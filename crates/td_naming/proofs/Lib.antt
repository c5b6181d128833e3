pub mod Accepting
pub mod Following
pub mod Remembering
pub mod Worked
