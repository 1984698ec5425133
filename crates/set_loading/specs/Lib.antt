-- What crate `set_loading` means: what load_set leaves and answers.
pub mod Sets
