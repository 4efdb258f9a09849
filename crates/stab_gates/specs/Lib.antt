pub mod Phases
pub mod Letters
pub mod XParts
pub mod LetterTexts
pub mod Limits
