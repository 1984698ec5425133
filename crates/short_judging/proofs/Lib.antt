-- Laws of items in turn, of what stands where in a file, of the passes that judge, and of what passing says.
pub mod Turns
pub mod Parts
mod Passes
pub mod Passing
