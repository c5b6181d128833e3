pub mod ByType
pub mod Complete
pub mod Ends
pub mod Fronts
pub mod Leading
pub mod Mapped
pub mod Runs
