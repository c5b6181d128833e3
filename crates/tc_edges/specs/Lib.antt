pub mod Edges
pub mod Examples
