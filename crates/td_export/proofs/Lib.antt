pub mod Exports
pub mod PolicyNames
pub mod RecipeTest
