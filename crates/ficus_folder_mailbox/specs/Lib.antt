pub mod Mail
