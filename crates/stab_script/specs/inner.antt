-- Definitions that only private contracts cite.
pub mod StepCounts
pub mod Distances
pub mod SessionAnswers
pub mod ErrorNumbers
