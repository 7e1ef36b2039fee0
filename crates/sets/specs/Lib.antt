pub mod Sets
pub mod SetsLaws
pub mod MembersLaws
pub mod Only
