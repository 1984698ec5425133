-- What crate `list_refusals` means: what refuses a run of the list machine.
pub mod Judging
