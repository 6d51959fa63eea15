mod Above
mod Places
pub mod Refusals
