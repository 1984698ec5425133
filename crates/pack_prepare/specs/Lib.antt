-- What crate `pack_prepare` means.
pub mod Prepared
