pub mod Format
pub mod Pieces
pub mod Unique
