-- What lifts from a world of the code to one of the model: that what actions on the members do is what they do in the
-- model, so that a world which stood for one stands for the one after.
pub mod LastPart
pub mod Pending
pub mod Parts
pub mod Sets
pub mod Outcomes
pub mod Lifts
pub mod Standing
pub mod Held
pub mod Pieces
pub mod Spelling
pub mod Exchanging
pub mod Following
pub mod Stepping
pub mod OneWorld
