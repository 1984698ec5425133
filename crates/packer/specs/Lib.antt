-- What crate `packer` means: what a packing leaves and answers.
pub mod Pack
