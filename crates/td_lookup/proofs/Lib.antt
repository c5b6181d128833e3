pub mod Batched
pub mod Chosen
pub mod Followed
pub mod Limited
pub mod Moved
pub mod Queried
pub mod Small
pub mod Worked
