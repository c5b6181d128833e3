pub mod Examples
pub mod Files
