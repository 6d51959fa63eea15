pub mod Calls
pub mod Link
pub mod MemSink
pub mod MemSource
pub mod Stream
pub mod Told
