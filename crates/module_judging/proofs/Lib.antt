-- Laws that belong to no one function.
pub mod JudgeLaws
pub mod ConditionLaws
