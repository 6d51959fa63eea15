pub mod Led
pub mod Splitting
