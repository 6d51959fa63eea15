pub mod AsBefore
pub mod Moments
pub mod Results
pub mod Sides
