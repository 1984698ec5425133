-- Laws that belong to no one function.
mod Sameness
pub mod Comparing
