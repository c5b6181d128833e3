mod Acting
pub mod Gifts
mod Growing
mod Moving
mod Owning
mod Refusing
mod Resting
mod Rising
pub mod Running
mod Standing
mod Travelling
mod Worked
