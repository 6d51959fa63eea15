pub mod Adjacent
pub mod Joining
pub mod Keeping
pub mod Once
pub mod Reading
pub mod Runs
mod Windows
