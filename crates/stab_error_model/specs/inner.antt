pub mod ErrorLists
pub mod Marked
pub mod Everywhere
pub mod ErrorRows
pub mod RowParts
pub mod Observed
