-- Laws of a short file on its way to the packer.
pub mod Packing
