-- Laws of the answer of a packing.
pub mod Answering
