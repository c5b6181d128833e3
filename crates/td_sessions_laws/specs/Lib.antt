pub mod Examples
pub mod OneHistory
pub mod Spelling
