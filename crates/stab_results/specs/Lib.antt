pub mod Formats
pub mod inner
