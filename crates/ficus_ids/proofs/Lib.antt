mod Masks
pub mod NumberLaws
