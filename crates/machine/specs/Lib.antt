-- What crate `machine` means.
pub mod Places
pub mod Effects
pub mod Commits
