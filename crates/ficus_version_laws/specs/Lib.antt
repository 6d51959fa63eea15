pub mod Compared
pub mod Listed
pub mod Covers
pub mod Views
pub mod Operations
pub mod Laws
