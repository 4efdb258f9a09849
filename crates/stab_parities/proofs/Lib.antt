mod Names
pub mod AscendingLemmas
pub mod MergeLemmas
