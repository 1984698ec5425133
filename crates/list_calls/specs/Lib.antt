-- What crate `list_calls` means.
pub mod Lists
