-- The table's theorem.
pub mod Table
