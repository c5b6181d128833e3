pub mod Dynamic
pub mod Enumerations
pub mod Structures
pub mod Unions
pub mod Values
