pub mod CodesLaws
