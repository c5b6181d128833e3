pub mod Heads
pub mod Joined
pub mod Linking
pub mod Passing
pub mod Tables
pub mod Types
pub mod Whole
