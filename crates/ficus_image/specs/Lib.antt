pub mod Image
pub mod ImageFault
