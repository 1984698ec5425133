-- What crate `set_judging` means: the modules of a set, and what refuses a set.
pub mod Members
pub mod Sharing
pub mod Conditions
pub mod Grounds
