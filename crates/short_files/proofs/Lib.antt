-- Laws of an output that is filled in two places at once, of the files that fill it, and of what is answered.
mod Stores
pub mod Filling
pub mod Lengths
pub mod Items
pub mod Written
pub mod Answering
