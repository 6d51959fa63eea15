pub mod Items
pub mod Pasts
pub mod Laws
