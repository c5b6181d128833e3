pub mod Drawing
pub mod Numbering
pub mod Steps
