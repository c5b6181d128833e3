pub mod Anys
pub mod Feeds
pub mod Framed
pub mod Numbers
pub mod Worked
