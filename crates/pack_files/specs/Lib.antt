-- What crate `pack_files` means.
pub mod Files
