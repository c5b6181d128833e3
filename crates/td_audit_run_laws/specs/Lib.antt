pub mod Examples
pub mod Rings
