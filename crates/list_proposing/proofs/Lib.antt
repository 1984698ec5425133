-- Laws that belong to no one function.
mod KindLaws
pub mod ProposeLaws
