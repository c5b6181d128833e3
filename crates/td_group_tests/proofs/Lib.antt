pub mod Admitted
pub mod Each
