-- Definitions that only private contracts cite.
pub mod SingleErrorSites
