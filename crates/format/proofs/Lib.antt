pub mod AcceptedLaws
pub mod ParsedLaws
