pub mod Applying
pub mod Examples
pub mod Histories
pub mod Laws
pub mod Numbering
pub mod Outcomes
pub mod Recording
