pub mod Walks
pub mod Folds
