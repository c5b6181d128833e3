pub mod Entrance
pub mod Firsts
pub mod Rows
pub mod Stems
pub mod Whole
