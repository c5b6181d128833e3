pub mod Modifies
pub mod Renewing
pub mod Withdrawn
