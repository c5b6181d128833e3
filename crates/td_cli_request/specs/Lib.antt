pub mod Forms
pub mod Cuts
pub mod Given
pub mod Policies
pub mod Queries
pub mod Properties
pub mod Types
pub mod Askings
