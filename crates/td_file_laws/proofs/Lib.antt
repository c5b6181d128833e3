mod Accepting
mod AcceptingTypes
mod Opening
pub mod WritableOpening
mod Worked
