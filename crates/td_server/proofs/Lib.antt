pub mod Closing
pub mod Coming
pub mod Counting
pub mod Flags
