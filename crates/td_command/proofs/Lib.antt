pub mod Obey
pub mod Said
pub mod Serving
pub mod Telling
pub mod Whole
