pub mod Adding
pub mod Chains
pub mod Rounds
pub mod Whole
pub mod Stopping
pub mod Through
