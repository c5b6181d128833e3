pub mod Jobs
pub mod JobSources
