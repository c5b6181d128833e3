pub mod Found
pub mod Free
pub mod Kept
