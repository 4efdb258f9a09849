-- Definitions that only private contracts, and those of calls for `stab_recording`, cite.
pub mod Weights
pub mod Draws
pub mod Propagates
pub mod Touches
pub mod Products
pub mod RecordedPivots
