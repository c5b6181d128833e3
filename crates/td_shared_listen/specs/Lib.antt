pub mod Listens
