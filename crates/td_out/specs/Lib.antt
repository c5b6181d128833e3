pub mod Causes
pub mod Texts
pub mod Calls
pub mod InMemory
pub mod Over
pub mod RandomWords
pub mod SinkTexts
