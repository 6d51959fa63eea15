pub mod Counting
pub mod Judging
pub mod Numbering
pub mod Owning
