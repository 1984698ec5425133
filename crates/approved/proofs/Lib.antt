-- The theorems.
pub mod Packing
pub mod Starting
pub mod Approved
pub mod Rows
