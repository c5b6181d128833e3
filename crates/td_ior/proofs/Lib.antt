pub mod Commas
pub mod Encapsulated
pub mod Keys
pub mod Made
pub mod Numbers
pub mod Profiles
pub mod Texts
