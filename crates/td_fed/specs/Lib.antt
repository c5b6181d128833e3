pub mod Calling
pub mod Entering
pub mod Resolving
pub mod Trails
pub mod Turning
pub mod Visiting
