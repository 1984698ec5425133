-- That a run runs as its packed cells do, and a run in two calls.
pub mod Packed
pub mod Cutting
