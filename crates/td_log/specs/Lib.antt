pub mod Examples
pub mod Forms
pub mod Keywords
pub mod Lines
pub mod Messages
pub mod Words
