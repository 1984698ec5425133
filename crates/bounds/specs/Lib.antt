-- What crate `bounds` means.
pub mod Bounds
