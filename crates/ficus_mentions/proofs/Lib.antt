pub mod Among
pub mod Kept
pub mod Marking
pub mod Own
