-- What is claimed of loads and saves together, and of loads that halt.
pub mod Theorems
pub mod Firsts
