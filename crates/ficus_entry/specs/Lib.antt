pub mod Entry
pub mod Inside
pub mod Kill
pub mod Place
pub mod SortLaws
pub mod Run
pub mod Spelled
