mod Names
pub mod PropagatedPointLemmas
pub mod FlippedReplayLemmas
pub mod EndingLemmas
pub mod RestFrameLemmas
pub mod RestLemmas
pub mod PropagatedCheckpointLemmas
mod LengthLemmas
pub mod SamePivotsLemmas
pub mod PauliSpanLemmas
pub mod FrameBetweenLemmas
mod PastSiteLemmas
pub mod PropagatedRunLemmas
mod RecordedLemmas
mod FollowLemmas
mod CountLemmas
mod SpliceLemmas
mod CourseLemmas
pub mod SpacingLemmas
mod StateLemmas
mod ConjugateSpacingLemmas
mod FlipSignLemmas
mod ConjugatingLemmas
mod DetermineLemmas
mod SessionLemmas
mod SpanLemmas
mod PendingLemmas
mod EditedLemmas
mod SplitLemmas
mod PauliItemLemmas
mod PauliLetterLemmas
mod PendingSpanLemmas
