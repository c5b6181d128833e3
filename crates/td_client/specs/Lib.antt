pub mod Noted
pub mod Meanings
