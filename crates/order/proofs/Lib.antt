pub mod ReadLaws
pub mod ReadsPass
pub mod ReadsPassLaws
