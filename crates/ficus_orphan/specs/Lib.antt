pub mod Made
pub mod Orphan
