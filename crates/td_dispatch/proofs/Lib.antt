pub mod Fits
pub mod ObjectCalls
pub mod Invoking
pub mod Replying
pub mod TraderCalls
pub mod VisitCalls
pub mod OutOfMemory
pub mod Worked
