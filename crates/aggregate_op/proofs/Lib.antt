mod Examples
pub mod Lesser
pub mod Sums
pub mod JoinedRows
pub mod MergedRows
pub mod NextRows
pub mod Halves
pub mod ClosedGroups
pub mod SameRows
pub mod GroupRuns
