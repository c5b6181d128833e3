pub mod Called
pub mod Calls
pub mod Examples
pub mod Exceptions
pub mod Laws
pub mod Operations
pub mod Outcomes
