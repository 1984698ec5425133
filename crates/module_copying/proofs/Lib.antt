-- Laws of a copy of cells.
pub mod CopyLaws
pub mod PlaceLaws
pub mod SameLaws
