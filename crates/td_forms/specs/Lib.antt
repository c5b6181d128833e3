pub mod Counted
pub mod Items
pub mod Numbers
pub mod Pieces
pub mod Types
pub mod Values
pub mod Words
