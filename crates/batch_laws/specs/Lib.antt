-- What is claimed of batches and of rules over their forms, and rows worked on paper.
pub mod Claims
pub mod Listings
pub mod Worked
