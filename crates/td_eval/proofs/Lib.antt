pub mod Agreeing
pub mod Arranged
pub mod Evaluating
pub mod Further
pub mod LessThan
pub mod Literals
pub mod Mentions
pub mod Occurring
pub mod Once
mod OneOrder
pub mod Operating
pub mod Ordered
pub mod Parts
pub mod Scaling
pub mod Sizes
pub mod Truths
