pub mod Clap
pub mod Given
pub mod Grammar
pub mod MemberMode
pub mod Mode
