pub mod JobSourceLaws
pub mod Kinds
pub mod Rows
pub mod Sessions
pub mod Steps
pub mod Whole
