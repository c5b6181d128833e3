pub mod Bounds
pub mod SizeLaws
