pub mod Acts
pub mod Kept
pub mod Fits
pub mod Pictured
pub mod Processes
pub mod Steps
pub mod NewlyOpened
