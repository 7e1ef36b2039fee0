pub mod NoLonger
pub mod LongestFile
