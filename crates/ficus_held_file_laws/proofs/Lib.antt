pub mod Lists
pub mod Entries
pub mod Files
pub mod Stepping
pub mod Merging
pub mod Orphans
