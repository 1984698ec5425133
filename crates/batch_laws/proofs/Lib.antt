-- The theorems about batches, and the laws that they stand on.
pub mod Reports
pub mod Forms
pub mod Runs
pub mod Batches
pub mod Listings
pub mod Rows
