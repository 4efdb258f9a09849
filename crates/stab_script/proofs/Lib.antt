mod Names
pub mod PathLaws
pub mod ChangeLaws
pub mod SignLaws
pub mod CountedReplyLaws
pub mod ItemCountLaws
pub mod ReadingLaws
pub mod ReportLaws
pub mod RequestLaws
pub mod DeterministicBitLaws
pub mod DistanceLaws
pub mod DistanceExistLaws
pub mod ScriptNumberLaws
pub mod AnswerLaws
pub mod AnswerExistLaws
pub mod ScriptRunLaws
pub mod ScriptTurnLaws
pub mod SignAnswerLaws
pub mod SessionAnswerLaws
pub mod SplitAnswerLaws
pub mod EndingLaws
mod WordLemmas
mod LineLemmas
mod SendLemmas
mod EachLemmas
mod ErrorNumberLemmas
mod SingleErrorWayLemmas
pub mod WayReplyLemmas
