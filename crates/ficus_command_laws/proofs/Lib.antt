pub mod Idle
pub mod Collecting
pub mod Late
