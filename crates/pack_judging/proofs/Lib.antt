-- Laws that belong to no one function.
pub mod Passes
pub mod Steps
pub mod Reading
