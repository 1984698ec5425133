-- What crate `processor_start` means.
pub mod Starting
pub mod Answers
