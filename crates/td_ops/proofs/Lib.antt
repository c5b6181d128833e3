pub mod Heard
pub mod Named
pub mod Refused
pub mod Tags
pub mod Told
