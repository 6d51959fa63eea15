mod Built
mod Distinct
mod Failing
mod Found
mod NumberLaws
pub mod OneMember
pub mod OneMode
mod Settling
mod Spelling
mod Turns
mod Uses
mod Walk
