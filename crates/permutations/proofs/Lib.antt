-- Laws of lists in another order.
pub mod PermutationLaws
