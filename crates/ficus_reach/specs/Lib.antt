pub mod Found
pub mod Leads
pub mod Edge
pub mod ReachedLaws
