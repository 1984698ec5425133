-- What crate `pack_refusals` means: what refuses a packing.
pub mod Judgement
