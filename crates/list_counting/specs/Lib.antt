-- What crate `list_counting` means.
pub mod Outcomes
pub mod Endings
