-- What crate `list_effects` means.
pub mod Looping
