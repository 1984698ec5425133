-- What is told of a run of the list machine.
pub mod Telling
