-- The laws.
pub mod Untouched
pub mod Places
pub mod Cycles
