-- What crate `short_packing` means.
pub mod Packing
