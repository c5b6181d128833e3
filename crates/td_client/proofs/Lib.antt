pub mod Admitted
pub mod Given
pub mod Marking
