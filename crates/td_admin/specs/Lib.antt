pub mod Administration
pub mod LinkJudged
pub mod Links
pub mod Repositories
pub mod RepositoryJudged
