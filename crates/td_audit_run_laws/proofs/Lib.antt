pub mod Auditing
pub mod Filed
pub mod Generating
pub mod Items
pub mod Ringing
pub mod Sparse
pub mod Worked
