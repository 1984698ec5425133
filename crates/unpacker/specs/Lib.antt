-- What crate `unpacker` means: what refuses an unpacking, what it leaves and what it answers.
pub mod Judgement
pub mod Unpack
