pub mod Greetings
pub mod Tickets
