-- Laws of the length of memory.
pub mod LengthLaws
