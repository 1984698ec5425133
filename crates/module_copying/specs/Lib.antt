-- What crate `module_copying` means: the copy of the cells.
pub mod Copies
