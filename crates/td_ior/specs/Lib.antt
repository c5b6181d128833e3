pub mod Enclosed
pub mod Keys
pub mod Laws
pub mod Nil
pub mod Number
pub mod Profiles
pub mod Texts
