mod Names
pub mod BoolLemmas
pub mod WriteLemmas
mod PrintLemmas
mod ArgumentLemmas
mod SearchLemmas
pub mod WordLemmas
pub mod PieceLemmas
pub mod TargetLemmas
pub mod LackLemmas
pub mod SureLemmas
pub mod GoodLineLemmas
