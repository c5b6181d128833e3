pub mod Closing
pub mod Desks
pub mod Seeded
pub mod Sends
