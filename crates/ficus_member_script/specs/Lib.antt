pub mod MemberAnswer
pub mod MemberLine
pub mod Reading
