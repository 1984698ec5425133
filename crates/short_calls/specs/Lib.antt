-- What crate `short_calls` means: the calls for short listing files.
pub mod Shorts
