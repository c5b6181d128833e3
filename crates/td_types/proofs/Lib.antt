pub mod Additions
pub mod Adds
pub mod Admitted
mod Answered
pub mod Below
pub mod ByName
pub mod Chained
mod Chains
pub mod Equal
pub mod Found
pub mod Gathered
pub mod Judging
pub mod Masks
pub mod Named
pub mod Names
pub mod Others
pub mod Outcomes
mod Placing
pub mod Prepares
pub mod Redefined
pub mod Removed
pub mod Rest
pub mod Rising
pub mod Sequences
pub mod Start
pub mod Stronger
pub mod Subtypes
pub mod Supers
mod Tables
mod Walks
