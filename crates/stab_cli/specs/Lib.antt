pub mod Coins
pub mod Usages
pub mod Jobs
