-- Laws that belong to no one function.
pub mod Recovering
mod Answering
