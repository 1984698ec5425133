-- What crate `batch_judging` means: what refuses a batch.
pub mod Grounds
