-- What crate `list_following` means: what a run of the list machine leaves and answers.
pub mod Follow
