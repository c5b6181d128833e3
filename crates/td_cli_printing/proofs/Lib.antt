pub mod Singles
pub mod Spelled
