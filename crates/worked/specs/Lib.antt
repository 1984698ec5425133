-- The rows marked P of document 01, Worked on paper, and those of document 02's requests.
pub mod Rows
pub mod Processor
pub mod Counting
pub mod Cycling
pub mod Areas
pub mod Tables
pub mod Packing
pub mod Modules
pub mod Table
