-- What crate `module_judging` means: the file of an object module, and what refuses a load or a save.
pub mod Format
pub mod Grounds
pub mod Conditions
