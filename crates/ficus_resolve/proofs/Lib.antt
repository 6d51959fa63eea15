pub mod Order
pub mod Cuts
pub mod Numerals
pub mod Versions
pub mod Outcomes
