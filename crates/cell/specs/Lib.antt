-- What crate `cell` means: cells, their bytes in lent memory, the check of a place, and the arithmetic of cells.
pub mod Choice
pub mod Shift
pub mod Number
pub mod Division
pub mod Memory
pub mod Place
pub mod Refusals
