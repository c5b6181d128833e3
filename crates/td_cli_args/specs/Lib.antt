pub mod Wishes
pub mod Tool
pub mod Forms
pub mod Matches
pub mod Answers
