pub mod AllMet
pub mod Closing
pub mod Seeded
pub mod Sends
pub mod Taking
