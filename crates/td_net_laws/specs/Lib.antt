pub mod Always
pub mod Arrivals
pub mod Examples
pub mod Premises
pub mod Steps
pub mod Trees
