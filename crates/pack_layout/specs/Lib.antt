-- What crate `pack_layout` means: listings, their entries, layout, rounds and image, an image read back, the listing file, and the worked rows.
pub mod Grounds
pub mod Kinds
pub mod Bytes
pub mod Flags
pub mod Placed
pub mod Listing
pub mod File
pub mod Layout
pub mod Image
pub mod Rounds
pub mod Packing
pub mod Output
pub mod Reading
pub mod Unpacking
pub mod Worked
