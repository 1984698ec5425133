-- What crate `areas` means.
pub mod Areas
