pub mod Known
pub mod Updates
pub mod Laws
pub mod Accepts
pub mod Views
