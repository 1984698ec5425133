-- Laws of iterated cycles: memory keeps its length (CycleLength), a sound machine stays sound (CycleSound), and a budget can be cut (BudgetLaws).
pub mod CycleLength
pub mod NumberBounds
pub mod EffectBounds
pub mod PlainBounds
pub mod TakingBounds
pub mod SoundLaws
pub mod CycleSound
pub mod DoneLaws
pub mod BudgetLaws
