pub mod Made
pub mod Told
mod Sorted
