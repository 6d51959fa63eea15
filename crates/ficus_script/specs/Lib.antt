pub mod Answer
pub mod Arguments
pub mod Command
pub mod Line
pub mod Order
pub mod Script
pub mod Verb
pub mod VolumeLine
