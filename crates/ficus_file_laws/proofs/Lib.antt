pub mod Items
pub mod Listing
pub mod Counted
pub mod Merging
pub mod Few
pub mod Taking
pub mod Pasts
pub mod Resolving
