-- What crate `throws` means.
pub mod Throws
