pub mod PutsLemmas
pub mod PieceLemmas
pub mod NumberLemmas
pub mod GroupLemmas
pub mod OneLemmas
pub mod HitLemmas
pub mod ZeroLemmas
