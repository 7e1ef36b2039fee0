pub mod Codes
pub mod Only
