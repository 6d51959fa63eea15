pub mod HereOrAway
pub mod Pairs
pub mod StandIn
