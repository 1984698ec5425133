-- Laws that belong to no one function.
pub mod ModuleLaws
pub mod SetLaws
