pub mod Exceptions
pub mod Laws
