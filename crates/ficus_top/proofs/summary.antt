pub mod Holdings
pub mod Keepers
pub mod OneSummary
pub mod Runs
pub mod Summarizing
pub mod Unfailing
pub mod Worlds
