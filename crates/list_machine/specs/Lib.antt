-- The list machine and its runs.
pub mod Outsides
pub mod ListMachine
pub mod Runs
pub mod Cutting
pub mod Worked
