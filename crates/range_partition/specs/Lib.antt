pub mod Share
pub mod ShareLaws
pub mod EntryOwner
pub mod EntryOwnerLaws
