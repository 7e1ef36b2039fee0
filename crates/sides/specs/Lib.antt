pub mod Sides
pub mod SidesLaws
pub mod Only
