-- What crate `cycles` means.
pub mod Cycles
pub mod Counts
pub mod Running
