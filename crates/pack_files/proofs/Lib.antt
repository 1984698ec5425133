-- Laws of a listing file.
pub mod Filing
