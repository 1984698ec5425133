-- Laws of items and runs, and the worked runs.
pub mod Opcodes
pub mod Within
pub mod Lengths
pub mod Cutting
pub mod Rows
