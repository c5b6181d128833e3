pub mod Choosing
pub mod Examples
pub mod Naming
pub mod Querying
pub mod Scenes
pub mod Answering
pub mod NoMemory
