pub mod Alike
pub mod Alone
pub mod Along
pub mod Counting
pub mod EveryDepth
pub mod Matching
pub mod PlainKinds
pub mod Symmetry
