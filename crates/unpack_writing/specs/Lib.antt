-- Arrays that a listing is written to.
pub mod Writing
