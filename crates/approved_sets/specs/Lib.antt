-- What crate `approved_sets` claims.
pub mod ApprovedSets
