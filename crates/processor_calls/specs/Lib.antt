-- What crate `processor_calls` means.
pub mod Machines
pub mod Budgets
