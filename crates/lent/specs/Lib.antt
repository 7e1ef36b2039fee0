pub mod Lent
pub mod Only
