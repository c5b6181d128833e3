pub mod BareSteps
pub mod Chains
pub mod Deciding
pub mod Drafting
pub mod Exploring
pub mod PairLists
pub mod Symmetry
