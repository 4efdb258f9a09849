-- Definitions that only private contracts cite.
pub mod Parts
pub mod Numbers
pub mod FrontTargets
pub mod PlainLines
pub mod KnownLines
pub mod Readers
pub mod Stretches
