-- What crate `short_files` means: both files of a listing, and what becomes of an output.
pub mod Files
pub mod Converted
