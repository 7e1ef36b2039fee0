pub mod Field
pub mod FieldLaws
pub mod Only
pub mod Opaque
