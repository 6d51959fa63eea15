pub mod Counted
pub mod Left
pub mod Searched
