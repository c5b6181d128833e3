pub mod Fixtures
pub mod Trees
pub mod Without
