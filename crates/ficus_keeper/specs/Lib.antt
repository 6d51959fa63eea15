pub mod Calls
pub mod Framed
pub mod Fuses
pub mod Kept
pub mod Moments
pub mod Pairs
