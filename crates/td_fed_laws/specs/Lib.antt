pub mod ArrivalExamples
pub mod Arrivals
pub mod Examples
pub mod Fresh
pub mod SharedLaws
pub mod Traces
pub mod WalkLaws
