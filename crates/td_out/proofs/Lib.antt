pub mod Finding
pub mod Moving
pub mod Steps
pub mod WordsLeft
pub mod Telling
