-- What crate `batches` means: what a batch leaves and answers.
pub mod Batches
