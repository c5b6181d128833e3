pub mod Answering
pub mod Batching
pub mod Fitness
pub mod Gathering
pub mod Leftover
pub mod Writing
pub mod Worked
