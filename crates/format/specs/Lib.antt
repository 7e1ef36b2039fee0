pub mod CodedLaws
pub mod Format
pub mod FormatLaws
pub mod Layout
pub mod LayoutLaws
pub mod Only
