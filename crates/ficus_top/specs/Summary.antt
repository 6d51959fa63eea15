pub mod Text
pub mod Summary
pub mod Running
pub mod Sized
pub mod Keeper
