pub mod Existing
pub mod CutOff
pub mod GivingUp
