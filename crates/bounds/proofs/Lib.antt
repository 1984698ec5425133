-- The laws of what bounds a machine.
pub mod BoundLaws
