pub mod Drills
pub mod Examples
pub mod Lines
pub mod Tallies
