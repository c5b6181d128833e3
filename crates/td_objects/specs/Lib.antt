pub mod Interfaces
pub mod References
