-- Laws that belong to no one function.
pub mod CountingLaws
pub mod TallyLaws
