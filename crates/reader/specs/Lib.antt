pub mod Reader
pub mod Only
