pub mod Seen
pub mod Place
pub mod TagFile
pub mod Lines
pub mod Answered
pub mod Making
pub mod Running
pub mod Program
