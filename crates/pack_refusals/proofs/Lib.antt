-- Laws of the judgement of a packing.
pub mod Judging
