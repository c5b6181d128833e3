pub mod Apart
pub mod AtPlaces
pub mod Counting
pub mod Fronts
pub mod Kept
pub mod Ordering
pub mod Replaying
