pub mod View
pub mod Told
pub mod Entries
pub mod Files
pub mod NewName
pub mod Chosen
pub mod Alike
