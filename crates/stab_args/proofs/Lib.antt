mod Names
pub mod OptionLaws
pub mod CoinLaws
pub mod PartWordLaws
pub mod CommandLaws
pub mod EndingLaws
pub mod NameLaws
