-- When a counting loop ends.
pub mod Counting
