-- Laws of counting loops.
pub mod CountingLaws
