pub mod Graphs
pub mod Depths
pub mod Examples
