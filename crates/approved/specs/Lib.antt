-- What crate `approved` means: an accepted packing, a memory that runs as a listing reads, and the claims that join the two.
pub mod Approved
pub mod Worked
