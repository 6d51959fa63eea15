pub mod Standing
pub mod Stepping
pub mod Keeping
pub mod Done
pub mod Leaving
pub mod Growing
pub mod Merging
pub mod Listing
