pub mod KeptAnswers
pub mod Sample
pub mod FoldedAnswers
