mod Names
pub mod RecordLemmas
pub mod ProductLemmas
pub mod RunLemmas
pub mod TargetLemmas
pub mod StateLemmas
pub mod FutureLemmas
pub mod LookbackLemmas
pub mod FutureBackLemmas
pub mod FixedLemmas
pub mod RoundLemmas
pub mod PointLemmas
pub mod FitLemmas
pub mod SoundLemmas
pub mod CoinLemmas
pub mod StepsLeftLemmas
pub mod SameLemmas
pub mod AlikeLemmas
mod SearchLemmas
mod PartLemmas
mod SpanLemmas
mod SeamLemmas
