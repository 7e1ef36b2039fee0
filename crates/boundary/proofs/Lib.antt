pub mod ReadRuns
pub mod ReadRunsLaws
pub mod CheckNumbers
pub mod CheckNumbersLaws
