pub mod Draining
pub mod Turns
pub mod Querying
pub mod Writing
pub mod Examples
