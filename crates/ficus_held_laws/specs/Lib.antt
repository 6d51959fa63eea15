pub mod Entries
pub mod EntryLaws
pub mod Objects
pub mod ObjectLaws
