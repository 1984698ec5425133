-- What crate `module_loading` means: what a load leaves and answers; and a worked example.
pub mod Answers
pub mod Rows
