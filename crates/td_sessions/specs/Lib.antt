pub mod JobSourceLaws
pub mod Sessions
pub mod Whole
pub mod Worlds
