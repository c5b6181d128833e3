pub mod Examples
pub mod Generated
