-- What crate `unpack_items` means beside the definitions of reading.
pub mod Readers
