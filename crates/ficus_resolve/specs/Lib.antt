pub mod Texts
pub mod Lines
pub mod Max
pub mod Keep
pub mod Resolver
