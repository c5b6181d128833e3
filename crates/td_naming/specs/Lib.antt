pub mod Alone
pub mod Examples
pub mod Histories
pub mod Laws
pub mod Views
