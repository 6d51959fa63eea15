-- Members on machines of their own, and what they do together.
pub mod Part
pub mod Together
pub mod Names
pub mod Killed
pub mod Laws
pub mod Alone
pub mod Acting
pub mod Found
