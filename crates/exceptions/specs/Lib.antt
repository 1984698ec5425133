-- What crate `exceptions` means.
pub mod Exceptions
pub mod Fixed
