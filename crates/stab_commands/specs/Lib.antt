pub mod Outputs
pub mod Sendings
pub mod Stabilisers
pub mod inner
pub mod Checks
pub mod CoinRuns
