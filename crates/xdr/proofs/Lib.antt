pub mod OpaqueLaws
