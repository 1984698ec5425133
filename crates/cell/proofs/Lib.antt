-- Laws that belong to no one function.
pub mod BooleanLaws
pub mod BytesLaws
pub mod NumberLaws
pub mod PlaceLaws
pub mod MemoryLaws
pub mod StoreLaws
pub mod JudgementLaws
