-- The machine without areas and without a table is the machine as it was before areas: places, and with them what instructions ask for (crate `before_tables`),
-- step by step up to any number of cycles (CycleLaws) and items (ListLaws), then what the entry points answer (AnswerLaws) and what the exported calls leave
-- (CallLaws).
pub mod PlaceLaws
pub mod CommitLaws
pub mod ThrowLaws
pub mod CycleLaws
pub mod ListLaws
pub mod AnswerLaws
pub mod CallLaws
