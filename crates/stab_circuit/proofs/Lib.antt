mod Names
mod ResultLemmas
mod NumberLemmas
mod CoordinateLemmas
mod DetectorLemmas
mod ProductLemmas
mod FrontTargetLemmas
mod ControlLemmas
mod ReadBackLemmas
mod FactorLemmas
mod ControlReadBackLemmas
mod NeatLemmas
mod ShapeLemmas
mod ContentLemmas
mod PrintedLemmas
mod MeaningLemmas
mod SpacedTargetLemmas
mod PlainLineLemmas
mod EmptyLemmas
mod LineRefusalLemmas
pub mod LineLaws
pub mod FirstLineLemmas
mod LinePieceLemmas
pub mod KnownLineLemmas
pub mod ReaderLemmas
mod ReadLineLemmas
pub mod StretchLemmas
mod InputLemmas
mod FaultLemmas
mod ReadingLemmas
mod RefusalLemmas
mod OneItemLemmas
mod TextLemmas
mod BlankLemmas
mod RoundLemmas
mod ItemTextLemmas
mod CircuitFaultLemmas
mod LineItemLemmas
mod BackLemmas
pub mod ClearLemmas
mod SplitLineLemmas
pub mod EachRoundLemmas
