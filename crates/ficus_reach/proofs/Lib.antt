mod Followed
mod Gained
mod Known
mod Ranges
mod Taken
mod Tracked
