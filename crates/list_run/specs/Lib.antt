-- What crate `list_run` means: that a run of the list machine may be cut at any item, and that it agrees with the processor.
pub mod Cutting
pub mod Packed
