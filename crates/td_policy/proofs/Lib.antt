pub mod Alone
mod Answered
pub mod Decided
pub mod Fields
pub mod Items
pub mod Least
pub mod ReadBack
