-- What is claimed of tables.
pub mod Keeping
pub mod ItemRows
