pub mod Gifts
pub mod Held
pub mod Replacing
