-- What crate `permutations` means: a list in another order.
pub mod Permutations
