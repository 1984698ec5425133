-- What is claimed of sets of modules, and rows worked on paper.
pub mod Claims
pub mod Worked
