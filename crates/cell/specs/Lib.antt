pub mod Limits
pub mod ListLaws
pub mod Table
pub mod LentTable
pub mod TableLaws
pub mod Catalogue
pub mod CatalogueLaws
pub mod Only
