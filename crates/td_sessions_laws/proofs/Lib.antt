mod AllSessions
mod OneSession
mod Places
pub mod Spelling
mod Views
mod Worked
