-- What crate `unpack_calls` means.
pub mod Images
