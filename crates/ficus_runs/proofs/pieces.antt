pub mod Saving
pub mod Mixing
pub mod Taken
pub mod Serving
