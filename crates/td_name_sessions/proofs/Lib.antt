pub mod AllMet
pub mod Closing
pub mod Served
pub mod Taking
