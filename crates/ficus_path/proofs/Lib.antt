pub mod ByteLaws
pub mod CutLaws
pub mod IdLaws
mod Lists
pub mod NameLaws
pub mod PartLaws
pub mod PathLaws
pub mod SpelledLaws
pub mod TextLaws
mod Weaker
