-- What crate `calls` means.
pub mod Modules
pub mod Sets
pub mod Listings
