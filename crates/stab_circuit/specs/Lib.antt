pub mod FirstLines
pub mod inner
pub mod Limits
pub mod Inputs
pub mod Readings
pub mod Laws
pub mod Explanations
