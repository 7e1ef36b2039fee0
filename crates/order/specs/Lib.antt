pub mod Label
pub mod LabelLaws
pub mod Only
pub mod Order
pub mod OrderLaws
pub mod Worked
