pub mod TagLines
pub mod Makes
pub mod Answering
pub mod Runs
pub mod Calls
