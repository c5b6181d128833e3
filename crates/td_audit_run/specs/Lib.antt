pub mod Audits
pub mod Commands
pub mod Printing
pub mod Reports
pub mod Status
