mod Commits
pub mod Tails
pub mod Making
