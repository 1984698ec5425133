-- Laws that belong to no one function.
pub mod PlainLaws
pub mod Alone
