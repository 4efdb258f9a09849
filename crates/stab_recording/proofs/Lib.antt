mod Names
pub mod BitLemmas
mod CheckpointLemmas
mod SameStateLemmas
pub mod CutLemmas
pub mod MeetingLemmas
pub mod FlippedLemmas
pub mod PivotLemmas
pub mod RunCheckpointLemmas
pub mod FrameStartLemmas
pub mod ConjugatedLemmas
mod ShotLemmas
pub mod AdvancedLemmas
pub mod RoundPositionLemmas
mod JoinedRoundLemmas
pub mod PointLemmas
pub mod ReplayLemmas
mod ProgressLemmas
pub mod SeenLemmas
pub mod SegmentLemmas
mod CursorPositionLemmas
mod DifferingReplayLemmas
mod PropagatedWayLemmas
mod QuietLemmas
mod LetterStateLemmas
pub mod RestPropagatedLemmas
mod FollowedLemmas
pub mod RepeatedRunLemmas
mod PropagatedPivotLemmas
mod FoldedPartLemmas
mod FoldedOverLemmas
mod FoldedReplayLemmas
mod RunLemmas
pub mod RecordedReplayLemmas
mod StopLemmas
