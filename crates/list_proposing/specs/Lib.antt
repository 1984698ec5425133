-- What crate `list_proposing` means.
pub mod Stands
