-- What crate `list_tables` means.
pub mod Tables
