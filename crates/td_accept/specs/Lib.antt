pub mod Doors
pub mod InMemory
pub mod Listening
