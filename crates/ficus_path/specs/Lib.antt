pub mod Path
pub mod Spelling
pub mod Text
