pub mod Lists
pub mod OwnMarks
pub mod Passes
pub mod Rules
