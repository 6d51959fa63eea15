pub mod Edits
pub mod InOrder
pub mod Made
pub mod SideBySide
pub mod Table
pub mod Walk
