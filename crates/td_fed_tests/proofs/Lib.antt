pub mod Small
pub mod ReadValues
