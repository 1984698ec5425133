-- The laws of a table.
pub mod TableLaws
