mod Names
pub mod ItemLemmas
mod CopyLemmas
mod PrintLemmas
pub mod StepLemmas
pub mod GoodItemLemmas
pub mod SummaryLemmas
pub mod StepPartLemmas
pub mod LookLemmas
pub mod LineDistinctLemmas
mod NothingLemmas
pub mod CountLemmas
mod WalkLemmas
mod SkipLemmas
mod PastItemLemmas
mod DetectorLemmas
pub mod EditLemmas
mod SpliceLemmas
mod JudgementLemmas
mod EditResultLemmas
mod CommitLemmas
mod StretchLemmas
mod PathLemmas
pub mod ItemAtLemmas
pub mod StepPathLemmas
mod StepsLeftLemmas
pub mod EditingLemmas
pub mod UndoLemmas
pub mod SplitLemmas
mod ChangeLemmas
mod DepthLemmas
mod PartLemmas
mod GapLemmas
pub mod PieceLemmas
pub mod GapPartLemmas
mod FinerLemmas
mod RepeatLemmas
pub mod SameLemmas
