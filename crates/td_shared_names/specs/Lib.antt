pub mod Acting
pub mod BookLaws
pub mod Seeing
pub mod Sharing
