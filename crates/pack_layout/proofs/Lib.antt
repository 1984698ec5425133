-- Laws of listings, their layout, rounds and image, and the worked rows.
pub mod Classes
pub mod KindLaws
pub mod Bytes
pub mod Placing
pub mod Image
pub mod Direct
pub mod Rounds
pub mod Listing
pub mod Packing
pub mod Finding
pub mod Meet
pub mod Opcodes
pub mod Reading
pub mod Output
pub mod Unpacking
pub mod Rows
