pub mod Digest
pub mod NoteLaws
pub mod Place
pub mod PlaceLaws
