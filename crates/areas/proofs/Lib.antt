-- The laws of areas.
pub mod AreaLaws
