pub mod Apart
pub mod NoNul
