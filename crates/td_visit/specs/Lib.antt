pub mod Resuming
pub mod Standing
