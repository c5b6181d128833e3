pub mod Mapping
pub mod Moving
