-- Laws that belong to no one function.
pub mod CycleLaws
pub mod RunLaws
