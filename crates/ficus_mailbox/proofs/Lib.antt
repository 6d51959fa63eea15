pub mod Inbox
pub mod Names
