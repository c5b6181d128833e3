pub mod Backends
pub mod Examples
pub mod ReplyBytes
pub mod Requests
pub mod Serving
