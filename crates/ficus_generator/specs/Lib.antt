pub mod Commands
pub mod Draws
pub mod Lines
pub mod Script
pub mod Step
