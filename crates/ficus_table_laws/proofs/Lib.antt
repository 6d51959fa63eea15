pub mod Sorting
pub mod Gathering
pub mod Entries
pub mod Versions
pub mod Files
