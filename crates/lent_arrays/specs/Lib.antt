-- What crate `lent_arrays` means.
pub mod Lending
