-- The theorems of crate `unpack_laws`, and the rows computed.
mod Cells
pub mod Theorems
pub mod Rows
