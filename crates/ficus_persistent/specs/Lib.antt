pub mod Cut
pub mod Falls
pub mod Node
pub mod Shape
