pub mod Calls
pub mod FileName
pub mod Letter
pub mod MemMailbox
pub mod MessageName
