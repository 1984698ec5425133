-- What crate `processor` means.
pub mod Answers
