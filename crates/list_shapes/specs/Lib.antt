-- What crate `list_shapes` means.
pub mod Shapes
