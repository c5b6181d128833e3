pub mod Oneness
pub mod Roots
pub mod Schedules
pub mod Walks
