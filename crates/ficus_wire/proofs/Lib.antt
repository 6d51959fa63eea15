pub mod Cutting
pub mod Holding
pub mod Messages
pub mod Rising
pub mod Sizes
