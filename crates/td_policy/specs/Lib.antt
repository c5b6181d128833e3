pub mod Attributes
pub mod Effective
pub mod Faults
pub mod Fields
pub mod Laws
pub mod Rules
pub mod Stated
pub mod Values
