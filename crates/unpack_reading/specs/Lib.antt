-- What crate `unpack_reading` means beside the definitions of reading: its arrays.
pub mod Arrays
