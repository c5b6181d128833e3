pub mod Words
pub mod Sending
pub mod Outcomes
pub mod Printing
pub mod Runs
