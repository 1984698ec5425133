-- The theorems about sets of modules, and the laws that they stand on.
pub mod Lists
pub mod Bytes
pub mod Orders
pub mod Singles
pub mod Conditions
pub mod Theorems
pub mod Places
pub mod Refusals
pub mod Rows
