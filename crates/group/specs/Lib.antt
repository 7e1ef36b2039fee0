pub mod Group
pub mod GroupLaws
pub mod FromLoomLaws
pub mod Step
pub mod StepLaws
pub mod Open
pub mod ActsLaws
pub mod Only
