-- What crate `list_judging` means.
pub mod Ways
