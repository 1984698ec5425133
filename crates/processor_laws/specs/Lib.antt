-- What it means that a machine is sound, and what is claimed of budgets.
pub mod Soundness
pub mod Budgets
