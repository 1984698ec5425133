-- Laws that belong to no one function.
pub mod CommitLaws
pub mod SpanLaws
