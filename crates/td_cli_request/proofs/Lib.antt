pub mod Piecing
pub mod Places
pub mod Putting
pub mod Refusing
