mod Usable
mod Standing
mod Telling
mod Causing
mod Counted
mod SoFar
pub mod Statements
mod Cutting
pub mod MayBeCut
pub mod Stored
mod Ranks
mod EntryRows
mod PlansMean
mod ReadingExamples
mod Left
pub mod OneList
mod Sample
