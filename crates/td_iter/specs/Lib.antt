pub mod Batches
pub mod Desks
pub mod Filling
pub mod Heads
pub mod Lends
pub mod Truths
