-- What crate `batch_forms` means: the forms of a batch.
pub mod Forms
