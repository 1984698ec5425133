-- The theorem of crate `approved_sets`.
pub mod Theorem
