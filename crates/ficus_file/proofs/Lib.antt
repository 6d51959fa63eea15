pub mod Changed
pub mod Joined
