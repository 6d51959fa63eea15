pub mod Making
pub mod Shapes
pub mod Unique
pub mod Reading
pub mod Joined
