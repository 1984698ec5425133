-- What crate `code_tables` means.
pub mod Tables
