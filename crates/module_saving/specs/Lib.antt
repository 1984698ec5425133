-- What crate `module_saving` means: what a save leaves and answers.
pub mod Answers
