pub mod Limits
pub mod Commands
