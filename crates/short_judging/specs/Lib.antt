-- What crate `short_judging` means: the operands of a short file, its parts, and what refuses files on the way from one kind to the other.
pub mod Operands
pub mod ShortFile
pub mod Judging
