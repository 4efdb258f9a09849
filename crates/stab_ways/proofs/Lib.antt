mod Names
pub mod FixedLemmas
pub mod EnoughLemmas
pub mod BlankLemmas
pub mod GateLemmas
pub mod FirstStepLemmas
pub mod RunLemmas
pub mod WalkedLemmas
pub mod StringLemmas
pub mod ResetLemmas
pub mod PassLemmas
pub mod ItemLemmas
pub mod TurnLemmas
pub mod WalkLemmas
pub mod EndLemmas
pub mod AlikeWayLemmas
pub mod FoldLemmas
pub mod ListedLemmas
