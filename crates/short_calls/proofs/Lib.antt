-- Laws of the calls for short listing files.
pub mod CallLaws
