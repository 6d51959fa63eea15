pub mod Disks
pub mod Ending
pub mod Member
