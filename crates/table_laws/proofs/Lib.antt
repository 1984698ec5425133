-- The laws.
pub mod Stores
pub mod Tables
pub mod Answers
pub mod Items
pub mod ItemRows
