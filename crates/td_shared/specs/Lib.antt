pub mod Calling
pub mod DeskLaws
pub mod DeskSeen
pub mod Laws
pub mod Serving
pub mod Sessions
pub mod Stages
