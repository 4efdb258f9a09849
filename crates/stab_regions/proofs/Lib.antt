mod Names
pub mod ShowLemmas
mod LookRowLemmas
mod PairLemmas
mod MultiplyLemmas
mod GateLemmas
mod FactorLemmas
mod RowLemmas
mod SignLemmas
mod LookLemmas
mod ReadLemmas
mod DeterministicLemmas
mod FramePointLemmas
mod TouchLemmas
mod RandomLemmas
pub mod DetectorLemmas
mod ParityLemmas
pub mod MoveLemmas
mod RegionPointLemmas
mod ObservableLemmas
mod TableLemmas
mod SingleErrorLemmas
mod StoredRowLemmas
mod SiteLemmas
pub mod AscentLemmas
pub mod InsertedLemmas
mod BelowLemmas
pub mod SingleErrorTableLemmas
mod BitLemmas
mod SingleErrorBitLemmas
mod TwoSingleErrorLemmas
mod ManySingleErrorLemmas
pub mod NegatedLemmas
pub mod PassLemmas
pub mod SingleErrorSumLemmas
mod LeftLemmas
mod EffectLemmas
mod NumberLemmas
pub mod EffectRowLemmas
mod RowMoveLemmas
mod EffectMoveLemmas
mod SiteRowLemmas
mod WalkRowLemmas
mod SweepLemmas
mod WalkLemmas
