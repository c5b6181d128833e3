pub mod Bodies
pub mod Concluding
pub mod Emptiness
pub mod Holding
pub mod Judging
pub mod Moving
pub mod Requesting
