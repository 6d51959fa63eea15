-- What the program does in each mode.
pub mod Init
pub mod Run
pub mod Replay
pub mod Check
pub mod Gen
pub mod Volumes
