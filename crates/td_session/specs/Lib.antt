pub mod Completeness
pub mod Headline
pub mod NumberLaws
pub mod Rooms
pub mod Serving
pub mod Sessions
pub mod Stages
