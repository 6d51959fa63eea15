pub mod Cuts
pub mod Heights
pub mod Rows
pub mod Spellings
