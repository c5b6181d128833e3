pub mod MadeReferences
pub mod Groups
pub mod ReadValues
