-- What is proved of images and listings, and rows worked on paper.
pub mod Claims
pub mod Worked
