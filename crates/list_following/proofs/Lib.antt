-- Laws of a run on a lent memory.
pub mod Following
