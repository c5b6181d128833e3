pub mod Judging
pub mod Showing
pub mod Never
pub mod Results
pub mod Coming
pub mod Endings
pub mod Lined
