pub mod Answering
pub mod Entering
pub mod Extending
pub mod Limit
pub mod Numbered
pub mod Refusing
pub mod Shapes
pub mod Steps
