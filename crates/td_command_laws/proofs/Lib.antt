pub mod NotRefused
pub mod Spelling
