pub mod Commands
pub mod Completeness
pub mod Printing
pub mod Reports
pub mod Runs
pub mod Seeds
pub mod Shelves
pub mod Status
