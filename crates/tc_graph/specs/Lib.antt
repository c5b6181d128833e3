pub mod Aliases
pub mod Drafts
pub mod Examples
pub mod Laws
pub mod Nodes
pub mod Pairs
pub mod Sameness
pub mod Whole
