pub mod Schedules
pub mod Storing
pub mod Supplies
pub mod Worlds
