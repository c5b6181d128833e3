pub mod Types
pub mod Values
pub mod Offers
pub mod Names
pub mod Answers
