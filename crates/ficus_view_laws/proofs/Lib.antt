pub mod Positions
pub mod Entries
pub mod Knowledge
pub mod Objects
pub mod CutOff
pub mod Collecting
pub mod States
