pub mod Limits
pub mod Tables
pub mod Saved
pub mod Laws
