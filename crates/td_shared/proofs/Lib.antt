pub mod ForIterators
pub mod OneKept
pub mod Others
pub mod Streaming
