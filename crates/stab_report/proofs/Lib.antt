mod Names
pub mod WritingLaws
pub mod SendingLaws
pub mod MemoryLaws
pub mod FaultLineLaws
pub mod SingleErrorTextLaws
pub mod SingleErrorSiteLaws
pub mod SingleErrorBitLaws
pub mod ErrorLineLaws
pub mod RandomLaws
