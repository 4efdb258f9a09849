pub mod Coins
pub mod Options
pub mod Asked
pub mod inner
