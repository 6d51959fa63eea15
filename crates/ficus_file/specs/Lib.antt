pub mod File
pub mod FileLaws
pub mod Files
pub mod VersionList
pub mod Showing
pub mod Twins
pub mod Version
