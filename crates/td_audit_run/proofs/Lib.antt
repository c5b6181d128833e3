pub mod Named
pub mod Obey
pub mod Said
