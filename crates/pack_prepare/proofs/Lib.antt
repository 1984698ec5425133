-- Laws of a listing that the input list passed.
pub mod Checking
