pub mod Reaching
pub mod Writable
pub mod WritableTraders
pub mod WritableWorlds
