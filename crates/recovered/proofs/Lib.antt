-- The theorem of crate `recovered`.
pub mod Theorem
