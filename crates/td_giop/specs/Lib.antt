pub mod Alone
pub mod Cut
pub mod Fields
pub mod FramerLends
pub mod Header
pub mod Heads
pub mod Stream
pub mod Written
