-- Laws that belong to no one function.
pub mod ShapeLaws
pub mod OpcodeLaws
