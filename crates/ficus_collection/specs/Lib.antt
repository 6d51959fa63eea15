pub mod Chosen
pub mod Reclaim
