pub mod ParityLemmas
pub mod PhaseLemmas
pub mod LetterLemmas
