-- What is proved of listing files of both kinds, and rows worked on paper.
pub mod Claims
pub mod Worked
