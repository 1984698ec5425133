-- What is claimed of stack areas.
pub mod Staying
