mod AllSessions
mod OneSession
mod Times
