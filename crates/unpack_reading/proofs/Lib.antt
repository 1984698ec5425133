-- Laws that belong to no one function.
mod Steps
pub mod Finding
