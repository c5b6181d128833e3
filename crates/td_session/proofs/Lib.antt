pub mod Complete
pub mod Exchanged
pub mod Headlined
pub mod Leading
pub mod Messages
