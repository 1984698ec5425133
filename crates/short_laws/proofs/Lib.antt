-- The theorems on listing files of both kinds.
mod Bytes
mod Turns
mod Reading
mod Writing
pub mod Plain
pub mod Theorems
pub mod Rows
