-- What crate `batch_reports` means: the report of some runs.
pub mod Reports
pub mod Conditions
