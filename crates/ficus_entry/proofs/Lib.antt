pub mod Found
pub mod KilledAll
pub mod Left
pub mod Noted
pub mod Scanned
pub mod Spelled
pub mod Within
