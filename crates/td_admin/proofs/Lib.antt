pub mod ChangeAnswers
pub mod LinkCauses
pub mod Masking
pub mod TypesTold
