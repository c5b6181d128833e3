pub mod Blanks
pub mod Feeds
pub mod OnLiterals
pub mod Pairs
pub mod Sounding
pub mod Stepping
pub mod Telling
mod ToldValues
