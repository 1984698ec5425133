-- The machine without a table is the machine as it was before tables: what instructions ask for (EffectLaws to TakingLaws, over any reading, since the machine before
-- areas is told by them too), places, step by step up to any number of cycles (CycleLaws) and items (ListLaws), then what the entry points answer (AnswerLaws)
-- and what the exported calls leave (CallLaws).
pub mod EffectLaws
pub mod PlainLaws
pub mod TakingLaws
pub mod MachineLaws
pub mod PlaceLaws
pub mod CommitLaws
pub mod ThrowLaws
pub mod CycleLaws
pub mod ItemLaws
pub mod ListLaws
pub mod AnswerLaws
pub mod CallLaws
