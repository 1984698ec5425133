-- What crate `batch_calls` means.
pub mod Batches
