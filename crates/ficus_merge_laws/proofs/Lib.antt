pub mod Dying
pub mod Rows
pub mod Following
