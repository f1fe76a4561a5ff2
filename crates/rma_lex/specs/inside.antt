pub mod LineFeed
pub mod Mask
pub mod Clean
pub mod Found
pub mod Kept
pub mod Blank
pub mod Edge
pub mod Reached
