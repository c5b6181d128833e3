pub mod Completeness
pub mod Ends
pub mod Examples
pub mod Runs
pub mod Words
