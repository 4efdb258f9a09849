pub mod ReadySamplers
pub mod Shots
pub mod Advanced
pub mod Arrivals
pub mod RestFrameStates
pub mod FoldedReplays
pub mod Progress
pub mod Runs
